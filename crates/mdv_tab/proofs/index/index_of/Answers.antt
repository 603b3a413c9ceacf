use Rattle.std.proofs.Common.{◌≡◌, ◌∙◌, ◌+◌, ℕ, Option, Some, List, take, sym, ap, subst, arith}
use Rattle.std.specs.Prelude.{IsSome}
use Rattle.mdv_base.specs.declared.name.Named.{Named}
use Rattle.mdv_tab.specs.declared.index.Index.{Index}
use Rattle.mdv_tab.specs.declared.key.Key.{Key}
use Rattle.mdv_tab.specs.Index.{IsIndexOf, key_of, number_at}
use Rattle.mdv_tab.specs.Order.{entry_set}
use Rattle.mdv_tab.proofs.Indexes.{index_more}
use Rattle.mdv_tab.proofs.index.index_of.Goals as goal
use Rattle.mdv_tab.proofs.index.index_of.Goals.{in-Some+in_ok-add, in_default}

pub loop-entry-preserved : goal.loop-entry-preserved
loop-entry-preserved c =
    let es = c.args.entries.now in
    let k = c.loop-entry.entry-index in
    let e = c.entry-item.result in
    let F : Index → Type 0 = λ x. IsIndexOf (take (k + 1) es) x in
    elim c.match-made_by.branch [
      | in-Some+in_ok-add w ↦
          let adds = w.in_ok-add.ensures in
          let G : Key → Type 0 = λ x. IsSome (number_at w.add.new.self x) in
          subst F (sym w.index-is) (index_more es k e c.loop-entry.index w.add.new.self c.loop-entry-test.true c.entry-item.is c.loop-entry.invariant adds.sound adds.one adds.keeps (λ named is.
          let both : Some w.in-Some.named ≡ Some named = w.in-Some.ensures ∙ is in
          let same : w.in-Some.named ≡ named = cc in
          let key : w.key_of.result ≡ key_of (entry_set e) named = w.key_of.ensures ∙ ap (λ (s : Option (List ℕ)). key_of s w.in-Some.named) w.set_of_entry.ensures ∙ ap (λ (n : Named). key_of (entry_set e) n) same in
          subst G key adds.has))
      | in_default w ↦
          subst F (sym w.index-is) (index_more es k e c.loop-entry.index c.loop-entry.index c.loop-entry-test.true c.entry-item.is c.loop-entry.invariant c.loop-entry.invariant.sound (omega arith) (λ other some. some) (λ named is. absurd (w.in_default.not-Some named (c.made_by.ensures ∙ is))))
    ]
