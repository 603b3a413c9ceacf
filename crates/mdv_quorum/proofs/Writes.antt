-- A table is written, becomes firm and is told.
use Rattle.std.proofs.Common.{◌≡◌, ◌<◌, ◌≤◌, ◌-◌, ℕ, Bool, true, false, refl, ap, sym, ◌∙◌, subst, List, [], ◌∷◌, ◌++◌, length, inl, inr, ◌⊎◌, Option, None, Some, arith}
use Rattle.std.proofs.lemmas.Bool.{false≢true, and_parts}
use Rattle.std.proofs.lemmas.List.Elements.{Contains-append_right, Contains-append_cases}
use Rattle.std.specs.Prelude.{option_to_list, Contains}
use Rattle.mdv_quorum.specs.Below.{Spot, Version, SpotState, is_in, is_named, last_list, is_read, is_written, is_claimed, table_at, put_at, with_newest}
use Rattle.mdv_votes.proofs.Meeting.{same_self, in_more}
use Rattle.mdv_votes.proofs.Quorums.{claims_meet_reads, lists_at}
use Rattle.mdv_votes.proofs.PlacesAt.{put_cases}
use Rattle.mdv_quorum.specs.declared.event.SlotEnd.{SlotEnd}
use Rattle.mdv_quorum.specs.declared.event.SlotEnd.TheVariants.{Closed, Holds}
use Rattle.mdv_quorum.specs.declared.machine.Core.{Core}
use Rattle.mdv_quorum.specs.declared.machine.Stage.{Stage}
use Rattle.mdv_quorum.specs.declared.machine.Stage.TheVariants.{Reading, Creating, Claiming, Writing, Ready}
use Rattle.mdv_quorum.specs.World.{slotted, slotted_next, wrote, settled, with_table, taken_after, places_after, last_table, told_at, told_of}
use Rattle.mdv_quorum.specs.May.{may_slot, may_slot_next, may_tell, is_target}
use Rattle.mdv_quorum.proofs.More.{longer, old_table, new_at, which, tables_more, all_common_more, plans_more, places_more}
use Rattle.mdv_quorum.proofs.Written.{some_same, write_places, write_taken, settle_places, settle_taken, settle_common, settle_plans, prefix_itself}
use Rattle.mdv_quorum.proofs.Invariant.{holds, boot_at, plan_at, IsLive, Base, Inv, StageOk, TakingOk, BootOk, Fits, KnownIn, HasTaken, IsAlone, MadeFrom, HasAll, IsPrefix}

-- one more place, where it took the table
taken_put : (family : List Version) (places : List SpotState) (p : Spot) → holds places p ≡ true → is_named (lists_at family (length family - 1)) p ≡ true → HasTaken family (put_at places p (with_newest (length family - 1))) p
taken_put family places p held named =
    elim (put_cases places p p (with_newest (length family - 1)) (λ x. refl)) [
      | inl a ↦ record { shows = ap (λ (x : SpotState). x.newest) a.1; held = ap (λ (x : SpotState). x.holds) a.1 ∙ held; named = named }
      | inr b ↦ absurd (false≢true (sym b.0 ∙ same_self p))
    ]

base_after : (w : Core) (p : Spot) (end : SlotEnd) (boot : Option ℕ) (took : List Spot) → Base w → TakingOk w.family w.firm w.places w.deleted w.log w.told boot took
    → Base (record w { places = places_after w.places (length w.family - 1) p end; stage = Writing boot (taken_after took p end) })
base_after w p Closed boot took b t = record { tables = b.tables; common = b.common; plans = b.plans; places = b.places }
base_after w p Holds boot took b t = record {
  tables = b.tables;
  common = b.common;
  plans = b.plans;
  places = write_places w.family w.firm w.places w.deleted p w.set b.tables b.places t.some t.there;
}

taking_after : (w : Core) (p : Spot) (end : SlotEnd) (boot : Option ℕ) (took : List Spot) → TakingOk w.family w.firm w.places w.deleted w.log w.told boot took
    → holds w.places p ≡ true → is_named (last_table w).lists p ≡ true
    → TakingOk w.family w.firm (places_after w.places (length w.family - 1) p end) w.deleted w.log w.told boot (taken_after took p end)
taking_after w p Closed boot took t held named = t
taking_after w p Holds boot took t held named = record {
  there = t.there;
  some = t.some;
  taken = λ q has. elim (in_more took p q has) [
    | inl old ↦ write_taken w.family w.places p q (t.taken q old)
    | inr is ↦ subst (λ (s : Spot). HasTaken w.family (put_at w.places p (with_newest (length w.family - 1))) s) is (taken_put w.family w.places p held named)
  ];
  made = t.made;
  alone = t.alone;
}

-- what a boot chose is as it was, whatever is firm now
boot_settled : (family : List Version) (firm : Option ℕ) (log told : List ℕ) (boot : Option ℕ) → BootOk family firm log told boot → BootOk family (Some (length family - 1)) log told boot
boot_settled family firm log told None b = tt
boot_settled family firm log told (Some i) b = record {
  known = b.known;
  live = λ f e h. absurd (omega (arith, h, some_same (length family - 1) f e));
  chosen = b.chosen;
  higher = b.higher;
}

-- the table becomes firm where it reached a write quorum
settled_ok : (v : Core) (boot : Option ℕ) (took : List Spot) (b : Bool) → Base v → TakingOk v.family v.firm v.places v.deleted v.log v.told boot took
    → is_written (last_table v) (is_in took) ≡ b → Inv (settled (record v { stage = Writing boot took }) (last_table v) b)
settled_ok v boot took false b t e = record {
  base = record { tables = b.tables; common = b.common; plans = b.plans; places = b.places };
  stage = record { taking = t; settles = λ h. absurd (false≢true (sym e ∙ h)) };
}
settled_ok v boot took true b t e = record {
  base = record {
    tables = b.tables;
    common = settle_common v.family t.some;
    plans = settle_plans v.family v.firm v.log v.told t.some b.places.firm_in b.plans;
    places = settle_places v.family v.firm v.places v.deleted (is_in took) v.set b.tables b.common b.places t.some t.there t.taken e t.alone;
  };
  stage = record {
    taking = record {
      there = t.there;
      some = t.some;
      taken = λ q has. settle_taken v.family v.places q (last_list (last_table v).lists) (t.taken q has);
      made = boot_settled v.family v.firm v.log v.told boot t.made;
      alone = λ half nobody i hi live.
          let up = live (length v.family - 1) refl in
          let last : length v.family - 1 ≡ i = omega (arith, up, hi) in
          subst (λ (k : ℕ). (lists_at v.family k).mediators ≡ []) last nobody;
    };
    settles = λ h. refl;
  };
}

pub wrote_ok : (w : Core) (p : Spot) (end : SlotEnd) (boot : Option ℕ) (took : List Spot) → Base w → TakingOk w.family w.firm w.places w.deleted w.log w.told boot took
    → holds w.places p ≡ true → is_named (last_table w).lists p ≡ true → Inv (wrote w p end boot took)
wrote_ok w p end boot took b t held named =
    settled_ok (record w { places = places_after w.places (length w.family - 1) p end; stage = Writing boot (taken_after took p end) }) boot (taken_after took p end)
    (is_written (last_table w) (is_in (taken_after took p end)))
    (base_after w p end boot took b t) (taking_after w p end boot took t held named) refl

-- the first write of a table
first_ok : (w : Core) (p : Spot) (end : SlotEnd) (boot : Option ℕ) (next : Version) → Base w → Fits w.set w.family w.firm w.log w.told next → w.deleted ≡ None
    → BootOk (w.family ++ next ∷ []) w.firm w.log w.told boot
    → ((i : ℕ) (read knows : Spot → Bool) → i < length w.family → IsLive w.firm i → is_read (table_at w.family i) read knows ≡ true
    → (next.mark.boot ≤ boot_at w.family i) ⊎ KnownIn w.family w.places read next.mark.boot)
    → is_target w next.lists p ≡ true → Inv (wrote (with_table w next) p end boot [])
first_ok w p end boot next b fits there made numbers target =
    let m = and_parts (holds w.places p) (is_named next.lists p) target in
    let used : length w.places ≡ 0 → ⊥ = λ e. used_at w.places p e m.0 in
    let last : length (w.family ++ next ∷ []) - 1 ≡ length w.family = (let l = longer w.set w.family next in omega (arith, l)) in
    let is : table_at (w.family ++ next ∷ []) (length (w.family ++ next ∷ []) - 1) ≡ next = new_at w.set w.family next (length (w.family ++ next ∷ []) - 1) last in
    wrote_ok (with_table w next) p end boot []
    (record {
      tables = tables_more w.set w.family next w.firm w.log w.told b.tables fits;
      common = all_common_more w.set w.family next w.firm w.log w.told b.places.firm_in b.common fits;
      plans = plans_more w.set w.family next w.firm w.log w.told b.places.firm_in b.plans fits;
      places = places_more w.set w.family next w.firm w.places w.deleted w.log w.told b.tables b.places fits there used numbers;
    })
    (record {
      there = there;
      some = (let l = longer w.set w.family next in omega (arith, l));
      taken = λ q has. absurd (false≢true has);
      made = made;
      alone = subst (λ (t : Version). IsAlone (w.family ++ next ∷ []) w.firm t) (sym is) (λ half nobody i hi live. elim (which w.set w.family next i hi) [
        | inl old ↦ ap (λ (t : Version). t.lists.mediators) (old_table w.set w.family next i old) ∙ fits.alone half nobody i old live
        | inr e ↦ ap (λ (t : Version). t.lists.mediators) (new_at w.set w.family next i e) ∙ nobody
      ]);
    })
    m.0 (subst (λ (t : Version). is_named t.lists p ≡ true) (sym is) m.1)
  where
    used_at : (places : List SpotState) (q : Spot) → length places ≡ 0 → holds places q ≡ true → ⊥
    used_at [] q e h = false≢true h
    used_at (x ∷ xs) q e h = absurd (omega arith)

slot_claiming : (w : Core) (p : Spot) (end : SlotEnd) (i : ℕ) (next : Version) (claimed : List Spot) → Base w → StageOk w (Claiming i next claimed)
    → may_slot w p (Claiming i next claimed) ≡ true → Inv (slotted w p end (Claiming i next claimed))
slot_claiming w p end i next claimed b ok may =
    let m = and_parts (is_claimed w.set next (is_in claimed)) (is_target w next.lists p) may in
    let l = longer w.set w.family next in
    let last : length (w.family ++ next ∷ []) - 1 ≡ length w.family = omega (arith, l) in
    let is : table_at (w.family ++ next ∷ []) (length (w.family ++ next ∷ []) - 1) ≡ next = new_at w.set w.family next (length (w.family ++ next ∷ []) - 1) last in
    let c = ok.chosen in
    let same : plan_at (w.family ++ next ∷ []) i ≡ plan_at w.family i = ap (λ (t : Version). t.plan) (old_table w.set w.family next i ok.known) in
    let known = ok.known in
    first_ok w p end (Some i) next b ok.fits ok.there (record {
      known = omega (arith, l, known);
      live = λ f e h. ok.live f e;
      chosen = record {
        plan = ap (λ (t : Version). t.plan) is ∙ c.plan ∙ sym same;
        same = ap (λ (t : Version). t.change) is ∙ c.same;
        issued = subst (λ (x : List ℕ). IsPrefix x w.log) (sym same) c.issued;
        holds_told = subst (λ (x : List ℕ). HasAll w.told x) (sym same) c.holds_told;
      };
      higher = λ u hu.
          let old : u < length w.family = omega (arith, hu, last) in
          let high = ok.higher u old in
          omega (arith, high, ap (λ (t : Version). t.mark.boot) (old_table w.set w.family next u old), ap (λ (t : Version). t.mark.boot) is);
    })
    (λ j read knows hj lj reads.
    let f = claims_meet_reads w.set (table_at w.family j) next (is_in claimed) read knows (ok.fits.before j hj lj).shared (b.tables.lists j hj).alone m.0 reads in
    inr (f.0, f.2, inl (ok.claims f.0 f.1)))
    m.1

slot_next : (w : Core) (p : Spot) (end : SlotEnd) (next : Option Version) → Base w → StageOk w (Ready next) → may_slot_next w p next ≡ true → Inv (slotted_next w p end next)
slot_next w p end None b ok may = absurd (false≢true may)
slot_next w p end (Some next) b ok may =
    let hand = ok.in_hand in
    let some = ok.some in
    first_ok w p end None next b hand.0 ok.there tt
    (λ j read knows hj lj reads.
    let up = lj (length w.family - 1) ok.settled in
    let last : length w.family - 1 ≡ j = omega (arith, up, hj) in
    inl (omega (arith, hand.1, ap (boot_at w.family) last)))
    may

pub slotted_ok : (w : Core) (p : Spot) (end : SlotEnd) (s : Stage) → Base w → StageOk w s → may_slot w p s ≡ true → Inv (slotted w p end s)
slotted_ok w p end (Reading places) b ok may = absurd (false≢true may)
slotted_ok w p end (Creating next) b ok may =
    let none = ok.first in
    first_ok w p end None next b ok.fits ok.there tt (λ j read knows hj lj reads. absurd (omega (arith, hj, none))) may
slotted_ok w p end (Claiming i next claimed) b ok may = slot_claiming w p end i next claimed b ok may
slotted_ok w p end (Writing boot took) b ok may =
    let m = and_parts (holds w.places p) (is_named (last_table w).lists p) may in
    wrote_ok w p end boot took b ok.taking m.0 m.1
slotted_ok w p end (Ready next) b ok may = slot_next w p end next b ok may

-- the last table has the change that it adds
has_change : (family : List Version) (i : ℕ) (t : Version) (o : Option ℕ) (c : ℕ) → MadeFrom family i t o → Contains (option_to_list t.change) c → Contains t.plan c
has_change family i t None c made has = subst (λ (l : List ℕ). Contains l c) (sym made) has
has_change family i t (Some k) c made has =
    subst (λ (l : List ℕ). Contains l c) (sym made.1) (Contains-append_right (plan_at family k) (option_to_list t.change) c has)

some_none : (i : ℕ) → Some i ≡ None → ⊥
some_none i e = cc

tell_ok : (w : Core) (boot : Option ℕ) (took : List Spot) → Base w → StageOk w (Writing boot took) → is_written (last_table w) (is_in took) ≡ true → Inv (told_of w boot)
tell_ok w None took b ok written =
    let firm = ok.settles written in
    let some = ok.taking.some in
    let only : (i : ℕ) → i < length w.family → IsLive w.firm i → length w.family - 1 ≡ i = λ i h live. (let up = live (length w.family - 1) firm in omega (arith, up, h)) in
    record {
      base = record {
        tables = b.tables;
        common = b.common;
        plans = record {
          issued = b.plans.issued;
          holds_told = λ i h live c has. elim (Contains-append_cases w.told (option_to_list (last_table w).change) c has) [
            | inl old ↦ b.plans.holds_told i h live c old
            | inr new ↦
                subst (λ (k : ℕ). Contains (plan_at w.family k) c) (only i h live)
                (has_change w.family (length w.family - 1) (last_table w) (last_table w).parent c (b.tables.made (length w.family - 1) (omega (arith, some))) new)
          ];
          descends = b.plans.descends;
          nothing = λ e. absurd (some_none (length w.family - 1) (sym firm ∙ e));
        };
        places = b.places;
      };
      stage = record { there = ok.taking.there; some = ok.taking.some; settled = firm; in_hand = tt };
    }
tell_ok w (Some i) took b ok written =
    let firm = ok.settles written in
    record {
      base = record {
        tables = b.tables;
        common = b.common;
        plans = record {
          issued = λ j h live.
              let up = live (length w.family - 1) firm in
              let last : length w.family - 1 ≡ j = omega (arith, up, h) in
              subst (λ (k : ℕ). IsPrefix (plan_at w.family k) (last_table w).plan) last (prefix_itself (last_table w).plan);
          holds_told = b.plans.holds_told;
          descends = b.plans.descends;
          nothing = b.plans.nothing;
        };
        places = b.places;
      };
      stage = record { there = ok.taking.there; some = ok.taking.some; settled = firm; in_hand = tt };
    }

pub told_ok : (w : Core) (s : Stage) → Base w → StageOk w s → may_tell w s ≡ true → Inv (told_at w s)
told_ok w (Reading places) b ok may = absurd (false≢true may)
told_ok w (Creating next) b ok may = absurd (false≢true may)
told_ok w (Claiming adopted next claimed) b ok may = absurd (false≢true may)
told_ok w (Writing boot took) b ok may = tell_ok w boot took b ok may
told_ok w (Ready next) b ok may = absurd (false≢true may)
