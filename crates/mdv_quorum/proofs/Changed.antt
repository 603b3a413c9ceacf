-- The next table: a creation, a commit or a change of lists.
use Rattle.std.proofs.Common.{◌≡◌, ◌<◌, ◌+◌, ◌-◌, ◌^◌, ℕ, Bool, true, false, refl, ap, sym, ◌∙◌, subst, List, [], ◌∷◌, ◌++◌, length, inl, inr, ◌⊎◌, Option, None, Some, arith, not, ◌&&◌}
use Rattle.std.proofs.lemmas.Bool.{false≢true, and_parts, or_cases, not-false, ltb-true, eqb-true, cases_eq, lt-ltb, eq-eqb, or_left, or_right, and_from}
use Rattle.std.proofs.lemmas.List.Elements.{Contains-append_left}
use Rattle.std.specs.Prelude.{Contains, nat_lt, ◌==◌}
use Rattle.mdv_quorum.specs.Below.{Mark, Spot, SpotLists, Version, last_list, same_spots, table_at, mark_below}
use Rattle.mdv_votes.proofs.SameSpots.{spots_same}
use Rattle.mdv_votes.proofs.Quorums.{lists_at, IsCommon, last_in}
use Rattle.mdv_quorum.specs.declared.machine.Core.{Core}
use Rattle.mdv_quorum.specs.declared.machine.Stage.{Stage}
use Rattle.mdv_quorum.specs.declared.machine.Stage.TheVariants.{Reading, Creating, Claiming, Writing, Ready}
use Rattle.mdv_quorum.specs.World.{created, changed, lists_at as lists_next, last_table}
use Rattle.mdv_quorum.specs.May.{may_list, is_lists, is_new, may_follow}
use Rattle.mdv_quorum.proofs.Written.{some_same, itself_common, prefix_itself}
use Rattle.mdv_quorum.proofs.Follow.{lists_ok, seats_follow, has_follow}
use Rattle.mdv_quorum.proofs.Invariant.{plan_at, IsLive, Base, Inv, StageOk, Fits, ListsOk, IsPrefix}

-- the first table fits behind nothing
create_fits : (w : Core) (lists : SpotLists) → Base w → length w.family ≡ 0 → ListsOk w.set lists
    → Fits w.set w.family w.firm (w.changes ∷ []) w.told (record { mark = record { boot = 1; count = 0 }; parent = None; change = Some w.changes; lists = lists; by_majority = false; plan = w.changes ∷ [] })
create_fits w lists b none ok =
    let no_firm : w.firm ≡ None = at w.firm refl in
    record {
      mark = λ i h. absurd (omega (arith, h, none));
      made = refl;
      lists = ok;
      itself = itself_common w.family w.firm lists;
      before = λ i h live. absurd (omega (arith, h, none));
      behind = λ i h live. absurd (omega (arith, h, none));
      issued = prefix_itself (w.changes ∷ []);
      holds_told = λ c has. absurd (none_has c (subst (λ (l : List ℕ). Contains l c) (b.plans.nothing no_firm) has));
      descends = λ f e. (let h = b.places.firm_in f e in absurd (omega (arith, h, none)));
      alone = λ half nobody i h live. absurd (omega (arith, h, none));
    }
  where
    at : (o : Option ℕ) → w.firm ≡ o → w.firm ≡ None
    at None e = e
    at (Some f) e = let h = b.places.firm_in f e in absurd (omega (arith, h, none))

    none_has : (c : ℕ) → Contains [] c → ⊥
    none_has c has = let h = has.1 in absurd (omega (arith, h))

create_ok : (w : Core) (lists : SpotLists) → Base w → is_lists w.set lists ≡ true → is_new w ≡ true → w.deleted ≡ None → Inv (created w lists)
create_ok w lists b lists_may new there =
    let none = b.places.unused (eqb-true (length w.places) 0 new) in
    let fits = create_fits w lists b none (lists_ok w.set lists lists_may) in
    record {
      base = record {
        tables = b.tables;
        common = b.common;
        plans = record {
          issued = λ i h live. absurd (omega (arith, h, none));
          holds_told = b.plans.holds_told;
          descends = b.plans.descends;
          nothing = b.plans.nothing;
        };
        places = b.places;
      };
      stage = record { first = none; there = there; fits = fits };
    }

none_there : (w : Core) → Base w → length w.family ≡ 0 → w.deleted ≡ None
none_there w b none = at w.deleted refl
  where
    at : (o : Option Spot) → w.deleted ≡ o → w.deleted ≡ None
    at None e = e
    at (Some g) e = let h = (b.places.gone g e).some in absurd (omega (arith, h, none))

-- the mark with one more commit is above
mark_next : (a b : Mark) → (a ≡ b) ⊎ (mark_below a b ≡ true) → mark_below a (record { boot = b.boot; count = b.count + 1 }) ≡ true
mark_next a b h =
    elim h [
      | inl same ↦
          subst (λ (m : Mark). mark_below m (record { boot = b.boot; count = b.count + 1 }) ≡ true) (sym same)
          (or_right (nat_lt b.boot b.boot) ((b.boot == b.boot) && nat_lt b.count (b.count + 1))
          (and_from (b.boot == b.boot) (nat_lt b.count (b.count + 1)) (eq-eqb b.boot b.boot refl) (lt-ltb b.count (b.count + 1) (omega arith))))
      | inr below ↦ elim (or_cases (nat_lt a.boot b.boot) ((a.boot == b.boot) && nat_lt a.count b.count) below) [
        | inl less ↦ or_left (nat_lt a.boot b.boot) ((a.boot == b.boot) && nat_lt a.count (b.count + 1)) less
        | inr eq ↦
            let p = and_parts (a.boot == b.boot) (nat_lt a.count b.count) eq in
            or_right (nat_lt a.boot b.boot) ((a.boot == b.boot) && nat_lt a.count (b.count + 1))
            (and_from (a.boot == b.boot) (nat_lt a.count (b.count + 1)) p.0 (lt-ltb a.count (b.count + 1) (omega (arith, ltb-true a.count b.count p.1))))
      ]
    ]

next_of : Core → SpotLists → Bool → Version
next_of w lists by_majority = record {
  mark = record { boot = (last_table w).mark.boot; count = (last_table w).mark.count + 1 };
  parent = Some (length w.family - 1);
  change = Some w.changes;
  lists = lists;
  by_majority = by_majority;
  plan = (last_table w).plan ++ w.changes ∷ [];
}

change_fits : (w : Core) (lists : SpotLists) (next : Option Version) → Base w → StageOk w (Ready next) → ListsOk w.set lists → may_follow (last_table w).lists lists ≡ true
    → Fits w.set w.family w.firm ((last_table w).plan ++ w.changes ∷ []) w.told (next_of w lists (not (same_spots (last_table w).lists.mediators lists.mediators)))
unfolding next_of
change_fits w lists next b ok new may =
    let some = ok.some in
    let m = length w.family - 1 in
    let hm : m < length w.family = omega (arith, some) in
    let old = (last_table w).lists in
    let only : (i : ℕ) → i < length w.family → IsLive w.firm i → m ≡ i = λ i h live. (let up = live m ok.settled in omega (arith, up, h)) in
    let seats = seats_follow w.set old lists (b.tables.lists m hm) new may in
    let has = has_follow old lists may in
    let before : IsCommon w.family w.firm old lists = record { shared = record { list = last_list old; in_a = last_in old; in_b = has; seats = seats.0 }; last = inr (m, ok.settled, refl) } in
    let behind : IsCommon w.family w.firm lists old = record { shared = record { list = last_list old; in_a = has; in_b = last_in old; seats = seats.1 }; last = inl refl } in
    let more : IsPrefix (last_table w).plan ((last_table w).plan ++ w.changes ∷ []) = (w.changes ∷ [], refl) in
    record {
      mark = λ i h. mark_next (table_at w.family i).mark (last_table w).mark (elim (cases_eq i m) [
        | inl same ↦ inl (ap (λ (k : ℕ). (table_at w.family k).mark) same)
        | inr apart ↦ inr (b.tables.marks i m (omega (arith, h, apart)) hm)
      ]);
      made = (hm, refl);
      lists = new;
      itself = itself_common w.family w.firm lists;
      before = λ i h live. subst (λ (k : ℕ). IsCommon w.family w.firm (lists_at w.family k) lists) (only i h live) before;
      behind = λ i h live. subst (λ (k : ℕ). IsCommon w.family w.firm lists (lists_at w.family k)) (only i h live) behind;
      issued = prefix_itself ((last_table w).plan ++ w.changes ∷ []);
      holds_told = λ c told. Contains-append_left (last_table w).plan (w.changes ∷ []) c
          (b.plans.holds_told m hm (λ f e. (let hf = b.places.firm_in f e in omega (arith, hf))) c told);
      descends = λ f e.
          let same : m ≡ f = some_same m f (sym ok.settled ∙ e) in
          subst (λ (k : ℕ). IsPrefix (plan_at w.family k) ((last_table w).plan ++ w.changes ∷ [])) same more;
      alone = λ half nobody i h live.
          let equal = spots_same old.mediators lists.mediators (not-false (same_spots old.mediators lists.mediators) half) in
          subst (λ (k : ℕ). (lists_at w.family k).mediators ≡ []) (only i h live) (equal ∙ nobody);
    }

change_ok : (w : Core) (lists : SpotLists) (next : Option Version) → Base w → StageOk w (Ready next) → is_lists w.set lists ≡ true → may_follow (last_table w).lists lists ≡ true
    → Inv (changed w lists (not (same_spots (last_table w).lists.mediators lists.mediators)))
unfolding next_of
change_ok w lists next b ok lists_may may =
    let fits = change_fits w lists next b ok (lists_ok w.set lists lists_may) may in
    record {
      base = record {
        tables = b.tables;
        common = b.common;
        plans = record {
          issued = λ i h live.
              let up = live (length w.family - 1) ok.settled in
              let last : length w.family - 1 ≡ i = omega (arith, up, h) in
              subst (λ (k : ℕ). IsPrefix (plan_at w.family k) ((last_table w).plan ++ w.changes ∷ [])) last (w.changes ∷ [], refl);
          holds_told = b.plans.holds_told;
          descends = b.plans.descends;
          nothing = b.plans.nothing;
        };
        places = b.places;
      };
      stage = record { there = ok.there; some = ok.some; settled = ok.settled; in_hand = (fits, refl) };
    }

pub lists_event_ok : (w : Core) (lists : SpotLists) (s : Stage) → Base w → StageOk w s → may_list w lists s ≡ true → Inv (lists_next w lists s)
lists_event_ok w lists (Reading places) b ok may =
    let m = and_parts (is_lists w.set lists) (is_new w) may in
    create_ok w lists b m.0 m.1 (none_there w b (b.places.unused (eqb-true (length w.places) 0 m.1)))
lists_event_ok w lists (Creating next) b ok may =
    let m = and_parts (is_lists w.set lists) (is_new w) may in
    create_ok w lists b m.0 m.1 (none_there w b (b.places.unused (eqb-true (length w.places) 0 m.1)))
lists_event_ok w lists (Claiming adopted next claimed) b ok may = absurd (false≢true may)
lists_event_ok w lists (Writing boot took) b ok may = absurd (false≢true may)
lists_event_ok w lists (Ready next) b ok may =
    let m = and_parts (is_lists w.set lists) (may_follow (last_table w).lists lists && nat_lt ((last_table w).mark.count + 1) (2 ^ 63)) may in
    let n = and_parts (may_follow (last_table w).lists lists) (nat_lt ((last_table w).mark.count + 1) (2 ^ 63)) m.1 in
    change_ok w lists next b ok m.0 n.0
