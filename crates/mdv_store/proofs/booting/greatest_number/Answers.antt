use Rattle.std.proofs.Common.{◌∙◌, ◌++◌, ◌∷◌, [], ℕ, max, take, sym, ap}
use Rattle.std.proofs.lemmas.List.{take_more}
use Rattle.mdv_store.specs.Below.{Replica}
use Rattle.mdv_store.specs.Boot.{greatest_number}
use Rattle.mdv_store.proofs.Seating.{greatest_more, greatest_taken, max_is}
use Rattle.mdv_store.proofs.booting.greatest_number.Goals as goal
use Rattle.mdv_store.proofs.booting.greatest_number.Goals.{then-is_of, else-is_of}

pub loop-replica-preserved : goal.loop-replica-preserved
loop-replica-preserved c =
    let rs = c.args.replicas.now in
    let identity = c.args.identity in
    let item = c.replica-item.result in
    let front = take c.loop-replica.replica-index rs in
    let more = take_more rs c.loop-replica.replica-index item c.loop-replica-test.true ∙ ap (λ (r : Replica). front ++ r ∷ []) (sym c.replica-item.is) in
    rw more (rw (greatest_more identity front item) (elim c.if-is_of.branch [
      | then-is_of w ↦ rw (sym c.is_of.ensures ∙ w.if-is_of.true) (w.greatest-is ∙ w.max-greatest.ensures ∙ max_is c.loop-replica.greatest w.greatest_of.result ∙ ap (λ (n : ℕ). max n w.greatest_of.result) c.loop-replica.invariant ∙ ap (λ (n : ℕ). max (greatest_number identity front) n) w.greatest_of.ensures)
      | else-is_of w ↦ rw (sym c.is_of.ensures ∙ w.if-is_of.false) (w.greatest-is ∙ c.loop-replica.invariant)
    ]))

pub returns : goal.returns
returns c = greatest_taken c.args.identity c.args.replicas.now c.loop-replica.replica-index c.loop-replica.greatest c.loop-replica-test.false c.loop-replica.invariant
