-- Places and seats are formatted and blanked.
use Rattle.std.proofs.Common.{◌≡◌, ◌<◌, ◌≤◌, ◌-◌, ◌*◌, ℕ, Bool, true, false, refl, ap, sym, ◌∙◌, subst, List, [], ◌∷◌, length, inl, inr, Option, None, Some, arith, cond, not, ◌&&◌, ◌||◌}
use Rattle.std.proofs.lemmas.Bool.{cases_Bool, false≢true, and_parts, or_cases, not-true, ltb-true, leb-true, cond-false}
use Rattle.std.specs.List.{count_by, list_any}
use Rattle.mdv_quorum.specs.Below.{Spot, Version, is_named, is_none, is_majority, is_half, same_spot, is_read, is_read_list, change_at, wiped}
use Rattle.mdv_votes.proofs.Meeting.{same_is, step_counted}
use Rattle.mdv_votes.proofs.Quorums.{covers_at, none_is, lists_at}
use Rattle.mdv_quorum.specs.declared.machine.Core.{Core}
use Rattle.mdv_quorum.specs.declared.machine.Stage.{Stage}
use Rattle.mdv_quorum.specs.declared.machine.Stage.TheVariants.{Reading, Creating, Claiming, Writing, Ready}
use Rattle.mdv_quorum.specs.World.{formatted_at, formatted_place, formatted_seat, formatted_next, wiped_at, without, given_up, last_table}
use Rattle.mdv_quorum.specs.May.{may_format, may_format_place, may_format_next, may_wipe, is_firm_in, is_only_place, is_only, is_single}
use Rattle.mdv_quorum.proofs.More.{boots_rise, none_some}
use Rattle.mdv_quorum.proofs.Written.{some_same}
use Rattle.mdv_quorum.proofs.Changes.{leaves_ok, leaves_to, wipe_leaves, wipe_taken, wipe_claims, wipe_gone}
use Rattle.mdv_quorum.proofs.Format.{format_places, seat_places}
use Rattle.mdv_quorum.proofs.Invariant.{holds, boot_at, Base, Inv, StageOk, NextOk}

-- the firm table doesn't name it
firm_free : (family : List Version) (firm : Option ℕ) (p : Spot) → is_firm_in family firm p ≡ false → (f : ℕ) → firm ≡ Some f → is_named (lists_at family f) p ≡ false
firm_free family firm p free f e = sym (ap (λ (o : Option ℕ). is_firm_in family o p) e) ∙ free

-- a place is formatted for the table in hand
format_ok : (w : Core) (p : Spot) (next : Version) → Base w → w.deleted ≡ None → ((u : ℕ) → u < length w.family → boot_at w.family u ≤ next.mark.boot)
    → may_format_place w p next.lists ≡ true → Base (formatted_place w p next)
format_ok w p next b there high may =
    let m = and_parts (not p.mediator) (is_named next.lists p && not (is_firm_in w.family w.firm p)) may in
    let free = not-true (is_firm_in w.family w.firm p) (and_parts (is_named next.lists p) (not (is_firm_in w.family w.firm p)) m.1).1 in
    record {
      tables = b.tables;
      common = b.common;
      plans = b.plans;
      places = format_places w.family w.firm w.places w.deleted p next.mark.boot w.set b.tables b.places there (not-true p.mediator m.0) high
          (firm_free w.family w.firm p free);
    }

format_next : (w : Core) (p : Spot) (next : Option Version) → w.stage ≡ Ready next → Base w → StageOk w (Ready next) → may_format_next w p next ≡ true → Inv (formatted_next w p next)
format_next w p None e b ok may = absurd (false≢true may)
format_next w p (Some next) e b ok may =
    let some = ok.some in
    record {
      base = format_ok w p next b ok.there
          (λ u hu. (let up = boots_rise w.set w.family b.tables u (length w.family - 1) (omega (arith, hu)) (omega (arith, some)) in omega (arith, up, ok.in_hand.1))) may;
      stage = subst (λ (s : Stage). StageOk (formatted_place w p next) s) (sym e) (record { there = ok.there; some = ok.some; settled = ok.settled; in_hand = ok.in_hand });
    }

format_seat : (w : Core) (p : Spot) (next : Option Version) → Base w → StageOk w (Ready next) → p.mediator ≡ true → not (is_firm_in w.family w.firm p) ≡ true → Inv (formatted_seat w p)
format_seat w p next b ok seat may =
    let some = ok.some in
    record {
      base = record {
        tables = b.tables;
        common = b.common;
        plans = b.plans;
        places = seat_places w.family w.firm w.places w.deleted p (last_table w).mark.boot w.set b.tables b.places ok.there seat ok.some
            (λ u hu. boots_rise w.set w.family b.tables u (length w.family - 1) (omega (arith, hu)) (omega (arith, some)))
            (firm_free w.family w.firm p (not-true (is_firm_in w.family w.firm p) may));
      };
      stage = record { there = ok.there; some = ok.some; settled = ok.settled; in_hand = tt };
    }

pub formatted_ok : (w : Core) (p : Spot) (s : Stage) → w.stage ≡ s → Base w → StageOk w s → may_format w p s ≡ true → Inv (formatted_at w p s)
formatted_ok w p (Reading places) e b ok may = absurd (false≢true may)
formatted_ok w p (Creating next) e b ok may =
    let none = ok.first in
    record {
      base = format_ok w p next b ok.there (λ u hu. absurd (omega (arith, hu, none))) may;
      stage = subst (λ (s : Stage). StageOk (formatted_place w p next) s) (sym e) (record { first = ok.first; there = ok.there; fits = ok.fits });
    }
formatted_ok w p (Claiming adopted next claimed) e b ok may = absurd (false≢true may)
formatted_ok w p (Writing boot took) e b ok may = absurd (false≢true may)
formatted_ok w p (Ready next) e b ok may = at p.mediator refl may
  where
    at : (k : Bool) → p.mediator ≡ k → cond k (not (is_firm_in w.family w.firm p)) (may_format_next w p next) ≡ true → Inv (cond k (formatted_seat w p) (formatted_next w p next))
    at true seat m = format_seat w p next b ok seat m
    at false place m = format_next w p next e b ok m

-- a place that neither the firm table nor the one in hand names is blanked
wipe_base : (w : Core) (p : Spot) → Base w → is_firm_in w.family w.firm p ≡ false → Base (record w { places = change_at w.places p wiped })
wipe_base w p b free = record {
  tables = b.tables;
  common = b.common;
  plans = b.plans;
  places = leaves_ok w.family w.firm w.places (change_at w.places p wiped) w.deleted b.places
      (wipe_leaves w.family w.firm w.deleted w.places p (λ f e there. firm_free w.family w.firm p free f e));
}

wipe_reading : (w : Core) (p : Spot) (places : List Spot) → w.stage ≡ Reading places → Base w → StageOk w (Reading places) → is_firm_in w.family w.firm p ≡ false → Inv (without w p)
wipe_reading w p places e b ok free = record {
  base = wipe_base w p b free;
  stage = subst (λ (s : Stage). StageOk (without w p) s) (sym e) (record { gone = ok.gone });
}

wipe_creating : (w : Core) (p : Spot) (next : Version) → w.stage ≡ Creating next → Base w → StageOk w (Creating next) → Inv (without w p)
wipe_creating w p next e b ok =
    let none = ok.first in
    record {
      base = record {
        tables = b.tables;
        common = b.common;
        plans = b.plans;
        places = leaves_ok w.family w.firm w.places (change_at w.places p wiped) w.deleted b.places
            (wipe_leaves w.family w.firm w.deleted w.places p (λ f ef there. (let h = b.places.firm_in f ef in absurd (omega (arith, h, none)))));
      };
      stage = subst (λ (s : Stage). StageOk (without w p) s) (sym e) (record { first = ok.first; there = ok.there; fits = ok.fits });
    }

wipe_claiming : (w : Core) (p : Spot) (i : ℕ) (next : Version) (claimed : List Spot) → w.stage ≡ Claiming i next claimed → Base w → StageOk w (Claiming i next claimed) → is_firm_in w.family w.firm p ≡ false → Inv (without w p)
wipe_claiming w p i next claimed e b ok free = record {
  base = wipe_base w p b free;
  stage = subst (λ (s : Stage). StageOk (without w p) s) (sym e) (record {
    there = ok.there;
    known = ok.known;
    chosen = ok.chosen;
    fits = ok.fits;
    live = ok.live;
    higher = ok.higher;
    claims = λ q has. subst (λ (c : ℕ). next.mark.boot ≤ c) (sym (wipe_claims w.places p q)) (ok.claims q has);
  });
}

wipe_writing : (w : Core) (p : Spot) (boot : Option ℕ) (took : List Spot) → w.stage ≡ Writing boot took → Base w → StageOk w (Writing boot took)
    → is_firm_in w.family w.firm p ≡ false → is_named (last_table w).lists p ≡ false → Inv (without w p)
wipe_writing w p boot took e b ok free hand =
    let t = ok.taking in
    record {
      base = wipe_base w p b free;
      stage = subst (λ (s : Stage). StageOk (without w p) s) (sym e) (record {
        taking = record { there = t.there; some = t.some; taken = λ q has. wipe_taken w.family w.places p q hand (t.taken q has); made = t.made; alone = t.alone };
        settles = ok.settles;
      });
    }

next_given : (w : Core) (p : Spot) (next : Option Version) → NextOk w.set w.family w.firm w.log w.told next → NextOk w.set w.family w.firm w.log w.told (given_up p next)
next_given w p None ok = tt
next_given w p (Some next) ok = at (is_named next.lists p)
  where
    at : (k : Bool) → NextOk w.set w.family w.firm w.log w.told (cond k None (Some next))
    at true = tt
    at false = ok

-- half of the list of one place, or more, is that place
only_counted : (set : Spot → Bool) (q : Spot) → 0 < count_by set (q ∷ []) → set q ≡ true
only_counted set q h =
    elim (cases_Bool (set q)) [
      | inl is ↦ is
      | inr isnt ↦ absurd (omega (arith, h, step_counted set q [], cond-false {A = ℕ} (set q) 1 0 isnt))
    ]

only_read : (mediators : List Spot) (read knows : Spot → Bool) (list : List Spot) (p : Spot) → is_only list p ≡ true → is_read_list mediators read knows list ≡ true → read p ≡ true
only_read mediators read knows [] p only h = absurd (false≢true only)
only_read mediators read knows (q ∷ qs) p only h =
    let parts = and_parts (same_spot q p) (is_none qs) only in
    let single : q ∷ qs ≡ q ∷ [] = ap (λ (l : List Spot). q ∷ l) (none_is qs parts.1) in
    let some : 0 < count_by read (q ∷ qs) =
    elim (or_cases (is_majority read (q ∷ qs)) ((not (is_none mediators) && is_half read (q ∷ qs)) && (is_majority read mediators && not (list_any (λ m. read m && knows m) mediators))) h) [
      | inl most ↦ omega (arith, ltb-true (length (q ∷ qs)) (2 * count_by read (q ∷ qs)) most)
      | inr rest ↦
          let a = and_parts (not (is_none mediators) && is_half read (q ∷ qs)) (is_majority read mediators && not (list_any (λ m. read m && knows m) mediators)) rest in
          let half = (and_parts (not (is_none mediators)) (is_half read (q ∷ qs)) a.0).1 in
          omega (arith, leb-true (length (q ∷ qs)) (2 * count_by read (q ∷ qs)) half)
    ] in
    subst (λ (s : Spot). read s ≡ true) (same_is q p parts.0) (only_counted read q (subst (λ (l : List Spot). 0 < count_by read l) single some))

only_needed : (t : Version) (p : Spot) (read knows : Spot → Bool) → is_only_place t.lists p ≡ true → is_read t read knows ≡ true → read p ≡ true
only_needed t p read knows only reads =
    only_read t.lists.mediators read knows t.lists.first p (and_parts (is_only t.lists.first p) (is_single t.lists.second) only).0
    (covers_at (is_read_list t.lists.mediators read knows) t.lists t.lists.first reads (inl refl))

-- the firm table's only place is blanked: the database is gone
wipe_last : (w : Core) (p : Spot) (next : Option Version) → Base w → StageOk w (Ready next) → p.mediator ≡ false → is_only_place (last_table w).lists p ≡ true
    → Inv (record w { places = change_at w.places p wiped; deleted = Some p; stage = Reading [] })
wipe_last w p next b ok place only = record {
  base = record {
    tables = b.tables;
    common = b.common;
    plans = b.plans;
    places = leaves_to w.family w.firm w.places (change_at w.places p wiped) w.deleted (Some p) b.places
        (wipe_leaves w.family w.firm (Some p) w.places p (λ f e there. absurd (none_some p (sym there))))
        (λ f e there. absurd (none_some p (sym there)))
        (λ q e.
        let same : p ≡ q = some_same p q e in
        record {
          some = ok.some;
          is_firm = ok.settled;
          place = subst (λ (s : Spot). s.mediator ≡ false) same place;
          wiped = subst (λ (s : Spot). holds (change_at w.places p wiped) s ≡ false) same (wipe_gone w.places p);
          needed = λ read knows reads. subst (λ (s : Spot). read s ≡ true) same (only_needed (last_table w) p read knows only reads);
        });
  };
  stage = record { gone = λ q e has. false≢true has };
}

pub wiped_ok : (w : Core) (p : Spot) (s : Stage) → w.stage ≡ s → Base w → StageOk w s → may_wipe w p s ≡ true → Inv (wiped_at w p s)
wiped_ok w p (Reading places) e b ok may =
    wipe_reading w p places e b ok (not-true (is_firm_in w.family w.firm p) (and_parts (not p.mediator) (not (is_firm_in w.family w.firm p)) may).1)
wiped_ok w p (Creating next) e b ok may = wipe_creating w p next e b ok
wiped_ok w p (Claiming i next claimed) e b ok may =
    let m = and_parts (not p.mediator) (not (is_firm_in w.family w.firm p) && not (is_named next.lists p)) may in
    wipe_claiming w p i next claimed e b ok (not-true (is_firm_in w.family w.firm p) (and_parts (not (is_firm_in w.family w.firm p)) (not (is_named next.lists p)) m.1).0)
wiped_ok w p (Writing boot took) e b ok may =
    let m = and_parts (not p.mediator) (not (is_firm_in w.family w.firm p) && not (is_named (last_table w).lists p)) may in
    let n = and_parts (not (is_firm_in w.family w.firm p)) (not (is_named (last_table w).lists p)) m.1 in
    wipe_writing w p boot took e b ok (not-true (is_firm_in w.family w.firm p) n.0) (not-true (is_named (last_table w).lists p) n.1)
wiped_ok w p (Ready next) e b ok may =
    let m = and_parts (not p.mediator) (not (is_firm_in w.family w.firm p) || is_only_place (last_table w).lists p) may in
    let firm : is_firm_in w.family w.firm p ≡ is_named (last_table w).lists p = ap (λ (o : Option ℕ). is_firm_in w.family o p) ok.settled in
    at (is_named (last_table w).lists p) firm m.0 m.1
  where
    at : (k : Bool) → is_firm_in w.family w.firm p ≡ k → not p.mediator ≡ true → (not (is_firm_in w.family w.firm p) || is_only_place (last_table w).lists p) ≡ true
        → Inv (cond k (record w { places = change_at w.places p wiped; deleted = Some p; stage = Reading [] })
        (record w { places = change_at w.places p wiped; stage = Ready (given_up p next) }))
    at true firm place m =
        wipe_last w p next b ok (not-true p.mediator place)
        (elim (or_cases (not (is_firm_in w.family w.firm p)) (is_only_place (last_table w).lists p) m) [
          | inl free ↦ absurd (false≢true (sym (not-true (is_firm_in w.family w.firm p) free) ∙ firm))
          | inr only ↦ only
        ])
    at false free place m =
        let base = wipe_base w p b free in
        record {
          base = record { tables = base.tables; common = base.common; plans = base.plans; places = base.places };
          stage = record { there = ok.there; some = ok.some; settled = ok.settled; in_hand = next_given w p next ok.in_hand };
        }
