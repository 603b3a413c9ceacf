use Rattle.std.proofs.Common.{◌≡◌, ◌∙◌, ℕ, false, List, Some, length, slice_get, slice_index_or, subst, ap, arith}
use Rattle.std.proofs.lemmas.Option.{slice_get-get_or}
use Rattle.mdv_store.specs.Below.{Identity, Replica, record_bytes}
use Rattle.mdv_store.specs.Letters.{letters_from, seen_at}
use Rattle.mdv_store.specs.Text.{blocks_for}
use Rattle.mdv_store.proofs.Lettering.{so_far_all}
use Rattle.mdv_store.proofs.letters.letters_read.Goals as goal

pub returns : goal.returns
returns c =
    let rs = c.as_slice-replicas.result.now in
    let looked = c.args.looked.now in
    let newest = c.args.newest.now in
    let all : rs ≡ looked.survey.replicas = c.as_slice-replicas.ensures in
    let replica : Replica = slice_index_or rs newest.replica c.index-replicas-newest.result in
    let identity : Identity = replica.head.master.identity in
    let text : c.blocks_for.result ≡ blocks_for (record_bytes newest.table) = c.blocks_for.ensures ∙ ap blocks_for c.text_bytes.ensures in
    record {
      replica = replica;
      one_of = subst (λ (l : List Replica). slice_get l newest.replica ≡ Some replica) all (slice_get-get_or rs newest.replica c.index-replicas-newest.result (omega (arith, c.requires, ap length all)));
      letters_are = so_far_all (seen_at c.args.site.now looked.survey looked.calm identity newest.mark c.blocks_for.result) c.last_of-place-items.result.now c.loop-place.place-index c.loop-place.was c.loop-place.seen c.loop-place-test.false c.loop-place.invariant
          ∙ ap (λ (n : ℕ). letters_from (seen_at c.args.site.now looked.survey looked.calm identity newest.mark n) false c.last_of-place-items.result.now) text
          ∙ ap (letters_from (seen_at c.args.site.now looked.survey looked.calm identity newest.mark (blocks_for (record_bytes newest.table))) false) c.last_of-place-items.ensures.value;
    }
