-- What may happen keeps the numbers in their limits.
use Rattle.std.proofs.Common.{◌≡◌, ◌<◌, ◌+◌, ◌^◌, ℕ, true, subst, List, Option, None, Some, ◌&&◌}
use Rattle.std.proofs.lemmas.Bool.{and_parts, ltb-true}
use Rattle.std.specs.Prelude.{nat_lt}
use Rattle.mdv_quorum.specs.Below.{Spot, SpotLists, Version, is_in, is_read, table_at, newest_of, greatest_of, knows_above}
use Rattle.mdv_quorum.specs.declared.event.Event.{Event}
use Rattle.mdv_quorum.specs.declared.event.Event.TheVariants.{Lists}
use Rattle.mdv_quorum.specs.declared.machine.Core.{Core}
use Rattle.mdv_quorum.specs.declared.machine.Stage.{Stage}
use Rattle.mdv_quorum.specs.declared.machine.Stage.TheVariants.{Reading, Ready}
use Rattle.mdv_quorum.specs.World.{rewritten, last_table}
use Rattle.mdv_quorum.specs.May.{may_claim, may_choose, is_fair, is_target, may_list, is_lists, may_follow, has_room}

-- the number that is drawn
pub claim_fits : (w : Core) (p : Spot) (places : List Spot) (i : ℕ) → w.stage ≡ Reading places → may_claim w p w.stage ≡ true → newest_of w.family w.places None places ≡ Some i
    → greatest_of w.family w.places 0 places + 1 < 2 ^ 63
claim_fits w p places i stage may e =
    let at = subst (λ (s : Stage). may_claim w p s ≡ true) stage may in
    let m = subst (λ (o : Option ℕ). may_choose w p places o ≡ true) e at in
    let adopts = is_target w (table_at w.family i).lists p && nat_lt (rewritten w places i).mark.boot (2 ^ 63) in
    let reads = is_read (table_at w.family i) (is_in places) (knows_above w.family w.places (table_at w.family i)) in
    let n = and_parts reads adopts (and_parts (reads && adopts) (is_fair w i places) m).0 in
    ltb-true (rewritten w places i).mark.boot (2 ^ 63) (and_parts (is_target w (table_at w.family i).lists p) (nat_lt (rewritten w places i).mark.boot (2 ^ 63)) n.1).1

-- the count of the next table
pub commit_fits : (w : Core) (lists : SpotLists) (next : Option Version) → w.stage ≡ Ready next → may_list w lists w.stage ≡ true → (last_table w).mark.count + 1 < 2 ^ 63
commit_fits w lists next stage may =
    let at = subst (λ (s : Stage). may_list w lists s ≡ true) stage may in
    let m = and_parts (is_lists w.set lists) (may_follow (last_table w).lists lists && nat_lt ((last_table w).mark.count + 1) (2 ^ 63)) at in
    let n = and_parts (may_follow (last_table w).lists lists) (nat_lt ((last_table w).mark.count + 1) (2 ^ 63)) m.1 in
    ltb-true ((last_table w).mark.count + 1) (2 ^ 63) n.1

-- the number of the next change
pub change_fits : (w : Core) (e : Event) (lists : SpotLists) → e ≡ Lists lists → has_room w e ≡ true → w.changes < 2 ^ 63
change_fits w e lists is room = ltb-true w.changes (2 ^ 63) (subst (λ (x : Event). has_room w x ≡ true) is room)
