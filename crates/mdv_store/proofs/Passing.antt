-- What holds while a pass goes over its replicas, whatever it writes.
use Rattle.std.proofs.Common.{◌≡◌, ◌⊎◌, inl, inr, ℕ, zero, suc, ◌==◌, Bool, true, false, not, ◌||◌, List, [], ◌∷◌, ◌++◌, map, slice_index_or, Contains, refl, sym, ◌∙◌, ap, subst, append_assoc, append-nil, arith}
use Rattle.std.specs.Prelude.{All, AllPairs}
use Rattle.std.specs.List.{list_any}
use Rattle.std.proofs.lemmas.Bool.{cases_eq, false≢true, or_parts, or_right}
use Rattle.std.proofs.lemmas.Bool.Decides.{nat_tests}
use Rattle.mdv_shelf.specs.Area.{IsKept}
use Rattle.mdv_shelf.proofs.Settled.{synced_still}
use Rattle.std.proofs.lemmas.List.{length-map, map-append}
use Rattle.std.proofs.lemmas.List.Elements.{All-cons, All-contains, All-nil, Contains-push_cases, filter_passes}
use Rattle.mdv_shelf.proofs.Frame.{kept_outside_more, kept_outside_same, kept_outside_wider}
use Rattle.mdv_standing.specs.Tracing.{Traces}
use Rattle.mdv_standing.specs.Worlds.{IsNoneOr}
use Rattle.mdv_standing.proofs.Tracing.{part_none_or, part_one, trace_here, trace_more, trace_weaker}
use Rattle.mdv_store_law.specs.Part.{IsPart}
use Rattle.mdv_store_law.proofs.Parts.{part_before, part_front, part_itself, part_mapped, part_more, part_of_part}
use Rattle.mdv_config.proofs.Pairs.{AllPairs-first, AllPairs-parts}
use Rattle.mdv_votes.specs.Spots.{is_in}
use Rattle.mdv_votes.proofs.Meeting.{same_self}
use Rattle.mdv_store.specs.Below.{Area, Core, Event, Identity, IsSynced, Log, Replica, Site, Spot, Table, Tale, same_spot}
use Rattle.mdv_store.specs.Passing.{Passed, Writing, begun, beside, lost, took}
use Rattle.mdv_look.specs.Quiet.{IsQuiet}
use Rattle.mdv_store.specs.Seats.{drive_of, replica_area, spot_of}
use Rattle.mdv_store.proofs.Rows.{part_filter, part_has, part_pairs}

abbrev pub spots : List Replica → List Spot
spots rs = map spot_of rs

abbrev AreApart : Spot → Spot → Type 0
AreApart p q = same_spot p q ≡ false

-- Lists of replicas.
pub has_first : {X : Type 0} (x : X) (xs : List X) → Contains (x ∷ xs) x
has_first x xs = (0, omega arith, refl)

pub has_rest : {X : Type 0} (x y : X) (xs : List X) → Contains xs y → Contains (x ∷ xs) y
has_rest x y xs has = (suc has.0, omega (arith, has.1), has.2)

get_mapped : {X Y : Type 0} (f : X → Y) (xs : List X) (k : ℕ) (d : X) → slice_index_or (map f xs) k (f d) ≡ f (slice_index_or xs k d)
get_mapped f [] k d = refl
get_mapped f (x ∷ xs) zero d = refl
get_mapped f (x ∷ xs) (suc k) d = get_mapped f xs k d

pub has_mapped : {X Y : Type 0} (f : X → Y) (xs : List X) (x : X) → Contains xs x → Contains (map f xs) (f x)
has_mapped f xs x has = (has.0, (let long = length-map xs f in omega (arith, long, has.1)), get_mapped f xs has.0 x ∙ ap f has.2)

part_rest : (r : Replica) (rest : List Replica) → IsPart rest (r ∷ rest)
part_rest r rest = part_before rest (r ∷ []) rest (part_itself rest)

beside_part : (r : Replica) (rs : List Replica) → IsPart (beside r.line.at.drive rs) rs
beside_part r rs = part_filter _ rs

off_drive : (r q : Replica) (rs : List Replica) → Contains (beside r.line.at.drive rs) q → drive_of q ≡ drive_of r → ⊥
off_drive r q rs has same =
    let passes = All-contains (λ (x : Replica). not (drive_of x == drive_of r) ≡ true) (beside r.line.at.drive rs) q (filter_passes (λ (x : Replica). not (drive_of x == drive_of r)) rs) has in
    grind (arith, nat_tests)

left_part : (r : Replica) (front rest : List Replica) → IsPart (beside r.line.at.drive front ++ beside r.line.at.drive rest) (front ++ r ∷ rest)
left_part r front rest =
    part_more (beside r.line.at.drive front) front (beside r.line.at.drive rest) (r ∷ rest) (beside_part r front) (part_before (beside r.line.at.drive rest) (r ∷ []) rest (beside_part r rest))

same_spots : (front rest : List Replica) (r n : Replica) → spot_of n ≡ spot_of r → spots ((front ++ n ∷ []) ++ rest) ≡ spots (front ++ r ∷ rest)
same_spots [] rest r n same = ap (λ (p : Spot). p ∷ spots rest) same
same_spots (x ∷ front) rest r n same = ap (λ (l : List Spot). spot_of x ∷ l) (same_spots front rest r n same)

never_apart : (p q : Spot) → AreApart p q → p ≡ q → ⊥
never_apart p q apart same = false≢true (sym apart ∙ subst (λ (s : Spot). same_spot p s ≡ true) same (same_self p))

module _ (front rest : List Replica) (r q : Replica) (once : AllPairs AreApart (spots (front ++ r ∷ rest))) where
  split : AllPairs AreApart (spots front ++ spots (r ∷ rest))
  split = subst (AllPairs AreApart) (map-append spot_of front (r ∷ rest)) once

  in_front : Contains front q → spot_of q ≡ spot_of r → ⊥
  in_front has =
      never_apart (spot_of q) (spot_of r) (AllPairs-parts AreApart (spots front) (spots (r ∷ rest)) (spot_of q) (spot_of r) split (has_mapped spot_of front q has) (has_first (spot_of r) (spots rest)))

  behind : Contains rest q → spot_of q ≡ spot_of r → ⊥
  behind has same =
      let later = part_pairs AreApart (spots (r ∷ rest)) (spots front ++ spots (r ∷ rest)) (part_before (spots (r ∷ rest)) (spots front) (spots (r ∷ rest)) (part_itself (spots (r ∷ rest)))) split in
      never_apart (spot_of r) (spot_of q) (All-contains (AreApart (spot_of r)) (spots rest) (spot_of q) (AllPairs-first AreApart (spot_of r) (spots rest) later) (has_mapped spot_of rest q has)) (sym same)

-- Sets of spots.
or_swap : (a b c : Bool) → (a || (b || c)) ≡ (b || (a || c))
or_swap true true c = refl
or_swap true false c = refl
or_swap false b c = refl

moved : (xs zs : List Spot) (y p : Spot) → is_in ((xs ++ y ∷ []) ++ zs) p ≡ is_in (y ∷ (xs ++ zs)) p
moved [] zs y p = refl
moved (x ∷ xs) zs y p = ap (λ (b : Bool). same_spot x p || b) (moved xs zs y p) ∙ or_swap (same_spot x p) (same_spot y p) (is_in (xs ++ zs) p)

in_part_one : (a : Bool) (b c : Bool) → (b ≡ true → c ≡ true) → (a || b) ≡ true → (a || c) ≡ true
in_part_one true b c on is = refl
in_part_one false b c on is = on is

in_part : (xs ys : List Spot) (p : Spot) → IsPart xs ys → is_in xs p ≡ true → is_in ys p ≡ true
in_part [] ys p is here = absurd (false≢true here)
in_part (x ∷ xs) [] p is here = absurd is
in_part (x ∷ xs) (y ∷ ys) p (inl is) here =
    in_part_one (same_spot y p) (is_in xs p) (is_in ys p) (in_part xs ys p is.1) (subst (λ (s : Spot). (same_spot s p || is_in xs p) ≡ true) is.0 here)
in_part (x ∷ xs) (y ∷ ys) p (inr is) here = or_right (same_spot y p) (is_in ys p) (in_part (x ∷ xs) ys p is here)

-- An area that no replica has.
none_has : (rs : List Replica) (drive block : ℕ) → list_any (λ (r : Replica). replica_area r drive block) rs ≡ false → All (λ (r : Replica). replica_area r drive block ≡ false) rs
none_has [] drive block out = All-nil (λ (r : Replica). replica_area r drive block ≡ false)
none_has (r ∷ rs) drive block out =
    let parts = or_parts (replica_area r drive block) (list_any (λ (q : Replica). replica_area q drive block) rs) out in
    All-cons (λ (q : Replica). replica_area q drive block ≡ false) r rs parts.0 (none_has rs drive block parts.1)

abbrev pub all_area : List Replica → Area
all_area rs drive block = list_any (λ (r : Replica). replica_area r drive block) rs

module _ (w : Writing) (all : List Replica) (t : Tale) where
  -- what is due is some of all
  pub due_part : (done due : List Replica) (u : Tale) → Passed w all t done due u → IsPart due all
  due_part done due u begun = part_itself all
  due_part done due u (took front rest r n v z before took_it ends) = part_of_part rest (r ∷ rest) all (part_rest r rest) (due_part front (r ∷ rest) v before)
  due_part done due u (lost front rest r v z before goes) =
      part_of_part (beside r.line.at.drive rest) rest all (beside_part r rest) (part_of_part rest (r ∷ rest) all (part_rest r rest) (due_part front (r ∷ rest) v before))

  due_in : (front rest : List Replica) (r : Replica) (u : Tale) → Passed w all t front (r ∷ rest) u → Contains all r
  due_in front rest r u passed = part_has (r ∷ rest) all r (due_part front (r ∷ rest) u passed) (has_first r rest)

  module _ (goes_on : (r n : Replica) (u v : Tale) → w.Ends r n u v → w.Goes r u v) where
    -- Nothing is done but to these replicas.
    module _ (quiet_at : (r : Replica) (u m : Tale) → Contains all r → w.Goes r u m → IsQuiet (replica_area r) u m) where
      quiet_step : (r : Replica) (u m : Tale) → Contains all r → w.Goes r u m → IsQuiet (all_area all) t u → IsQuiet (all_area all) t m
      quiet_step r u m one goes before =
          let here = quiet_at r u m one goes in
          record {
            outside = kept_outside_more (all_area all) t u m before.outside
                (kept_outside_wider (replica_area r) (all_area all) u m (λ drive block out. All-contains (λ (q : Replica). replica_area q drive block ≡ false) all r (none_has all drive block out) one) here.outside);
            quiet = here.quiet ∙ before.quiet;
          }

      pub passed_quiet : (done due : List Replica) (u : Tale) → Passed w all t done due u → IsQuiet (all_area all) t u
      passed_quiet done due u begun = record { outside = kept_outside_same (all_area all) t; quiet = refl }
      passed_quiet done due u (took front rest r n v z before took_it ends) = quiet_step r v z (due_in front rest r v before) (goes_on r n v z ends) (passed_quiet front (r ∷ rest) v before)
      passed_quiet done due u (lost front rest r v z before goes) = quiet_step r v z (due_in front rest r v before) goes (passed_quiet front (r ∷ rest) v before)

    -- What is read of a drive whose replica took it no crash takes back.
    module _ (place : (r n : Replica) → w.Took r n → drive_of n ≡ drive_of r) (elsewhere : (r : Replica) (u m : Tale) (drive : ℕ) → (drive ≡ drive_of r → ⊥) → w.Goes r u m → (block : ℕ) → IsKept u m drive block)
        (settled : (r n : Replica) (u v : Tale) → w.Ends r n u v → IsSynced (drive_of r) v) where
      synced_more : (front : List Replica) (r n q : Replica) (u v : Tale) → w.Took r n → w.Ends r n u v → (Contains front q → IsSynced (drive_of q) u) → Contains front q ⊎ (n ≡ q) → (drive_of q ≡ drive_of r) ⊎ (drive_of q ≡ drive_of r → ⊥)
          → IsSynced (drive_of q) v
      synced_more front r n q u v took_it ends were has (inl here) = subst (λ (d : ℕ). IsSynced d v) (sym here) (settled r n u v ends)
      synced_more front r n q u v took_it ends were (inl has) (inr apart) = synced_still (drive_of q) u v (elsewhere r u v (drive_of q) apart (goes_on r n u v ends)) (were has)
      synced_more front r n q u v took_it ends were (inr same) (inr apart) = absurd (apart (ap drive_of (sym same) ∙ place r n took_it))

      pub passed_synced : (done due : List Replica) (u : Tale) → Passed w all t done due u → (q : Replica) → Contains done q → IsSynced (drive_of q) u
      passed_synced done due u begun q has = absurd (omega (arith, has.1))
      passed_synced done due u (took front rest r n v z before took_it ends) q has =
          synced_more front r n q v z took_it ends (passed_synced front (r ∷ rest) v before q) (Contains-push_cases front n q has) (cases_eq (drive_of q) (drive_of r))
      passed_synced done due u (lost front rest r v z before goes) q has =
          let drive = r.line.at.drive in
          let old = part_has (beside drive front) front q (beside_part r front) has in
          synced_still (drive_of q) v z (elsewhere r v z (drive_of q) (off_drive r q front has) goes) (passed_synced front (r ∷ rest) v before q old)

    -- What holds of the replicas that are due, and of those that took it.
    module _ (Due Done : Replica → Tale → Type 0) where
      pub record Holds (done due : List Replica) (u : Tale) : Type 0 where
        pub done_hold : (r : Replica) → Contains done r → Done r u
        pub due_hold : (r : Replica) → Contains due r → Due r u
        pub once : AllPairs AreApart (spots (done ++ due))

      module _ (place : (r n : Replica) → w.Took r n → spot_of n ≡ spot_of r)
          (still_due : (q r : Replica) (u m : Tale) → Contains all r → (spot_of q ≡ spot_of r → ⊥) → Due q u → Due r u → w.Goes r u m → Due q m)
          (still_done : (q r : Replica) (u m : Tale) → Contains all r → (spot_of q ≡ spot_of r → ⊥) → Done q u → Due r u → w.Goes r u m → Done q m)
          (takes : (r n : Replica) (u v : Tale) → Contains all r → Due r u → w.Ends r n u v → Done n v)
          (start : (r : Replica) → Contains all r → Due r t) (apart : AllPairs AreApart (spots all)) where
        took_done : (front : List Replica) (r n q : Replica) (u v : Tale) → Contains all r → Due r u → w.Ends r n u v → (Contains front q → Done q v) → Contains front q ⊎ (n ≡ q) → Done q v
        took_done front r n q u v one mine ends old (inl has) = old has
        took_done front r n q u v one mine ends old (inr same) = subst (λ (x : Replica). Done x v) same (takes r n u v one mine ends)

        pub holds : (done due : List Replica) (u : Tale) → Passed w all t done due u → Holds done due u
        holds done due u begun = record { done_hold = λ r has. absurd (omega (arith, has.1)); due_hold = start; once = apart }
        holds done due u (took front rest r n v z before took_it ends) =
            let h = holds front (r ∷ rest) v before in
            let one = due_in front rest r v before in
            let mine = h.due_hold r (has_first r rest) in
            let goes = goes_on r n v z ends in
            record {
              done_hold = λ q has.
                  took_done front r n q v z one mine ends (λ old. still_done q r v z one (in_front front rest r q h.once old) (h.done_hold q old) mine goes) (Contains-push_cases front n q has);
              due_hold = λ q has. still_due q r v z one (behind front rest r q h.once has) (h.due_hold q (has_rest r q rest has)) mine goes;
              once = subst (AllPairs AreApart) (sym (same_spots front rest r n (place r n took_it))) h.once;
            }
        holds done due u (lost front rest r v z before goes) =
            let h = holds front (r ∷ rest) v before in
            let one = due_in front rest r v before in
            let mine = h.due_hold r (has_first r rest) in
            let drive = r.line.at.drive in
            record {
              done_hold = λ q has. (let old = part_has (beside drive front) front q (beside_part r front) has in still_done q r v z one (in_front front rest r q h.once old) (h.done_hold q old) mine goes);
              due_hold = λ q has. (let old = part_has (beside drive rest) rest q (beside_part r rest) has in still_due q r v z one (behind front rest r q h.once old) (h.due_hold q (has_rest r q rest old)) mine goes);
              once = part_pairs AreApart (spots (beside drive front ++ beside drive rest)) (spots (front ++ r ∷ rest))
                  (part_mapped spot_of (beside drive front ++ beside drive rest) (front ++ r ∷ rest) (left_part r front rest)) h.once;
            }

    -- What holds of each replica that is due, as it is written to.
    module _ (Due : Replica → Tale → Type 0) (due : (front rest : List Replica) (r : Replica) (u : Tale) → Passed w all t front (r ∷ rest) u → Due r u) where
      -- So what each of the writings leaves stays.
      module _ (Stands : Tale → Type 0) (step : (r : Replica) (u m : Tale) → Contains all r → Due r u → w.Goes r u m → Stands u → Stands m) (start : Stands t) where
        pub stands : (done rest : List Replica) (u : Tale) → Passed w all t done rest u → Stands u
        stands done left u begun = start
        stands done left u (took front rest r n v z before took_it ends) = step r v z (due_in front rest r v before) (due front rest r v before) (goes_on r n v z ends) (stands front (r ∷ rest) v before)
        stands done left u (lost front rest r v z before goes) = step r v z (due_in front rest r v before) (due front rest r v before) goes (stands front (r ∷ rest) v before)

      -- Each world goes on by some of these events, in their order.
      module _ (Spells : List ℕ → Table → Type 0) (site : Site) (identity : Identity) (log : Log) (event : Spot → Event) (Know : List Spot → Core → Type 0)
          (place : (r n : Replica) → w.Took r n → spot_of n ≡ spot_of r)
          (fewer : (more less : List Spot) (core : Core) → ((p : Spot) → is_in less p ≡ true → is_in more p ≡ true) → Know more core → Know less core)
          (going : (r : Replica) (u m : Tale) (ok : List Spot) → Contains all r → Due r u → w.Goes r u m → Traces Spells site identity log log (Know ok) (IsNoneOr (event (spot_of r))) (Know ok) u m)
          (gone : (r n : Replica) (u m : Tale) (ok : List Spot) → Contains all r → Due r u → w.Ends r n u m
          → Traces Spells site identity log log (Know ok) (λ es. es ≡ event (spot_of r) ∷ []) (Know (spot_of r ∷ ok)) u m) (before : List Spot) where
        abbrev events : List Replica → List Event
        events rs = map event (spots rs)

        abbrev Are : List Replica → List Event → Type 0
        Are rest es = IsPart (es ++ events rest) (events all)

        on : (r : Replica) (rest left : List Replica) (es fs : List Event) → IsPart left rest → Are (r ∷ rest) es → IsPart fs (event (spot_of r) ∷ []) → Are left (es ++ fs)
        on r rest left es fs part are one =
            let e = event (spot_of r) in
            part_of_part ((es ++ fs) ++ events left) ((es ++ e ∷ []) ++ events rest) (events all)
            (part_more (es ++ fs) (es ++ e ∷ []) (events left) (events rest) (part_more es es fs (e ∷ []) (part_itself es) one)
            (part_mapped event (spots left) (spots rest) (part_mapped spot_of left rest part)))
            (subst (λ (l : List Event). IsPart l (events all)) (sym (append_assoc es (e ∷ []) (events rest))) are)

        pub traced : (done rest : List Replica) (u : Tale) → Passed w all t done rest u → Traces Spells site identity log log (Know before) (Are rest) (Know (spots done ++ before)) t u
        traced done left u begun =
            trace_here Spells site identity log log (Know before) (Are all) (Know before) t (λ core image is world known. record { events = []; are = part_itself (events all); may = tt; world = world; known = known })
        traced done left u (took front rest r n v z passed took_it ends) =
            let ok = spots front ++ before in
            let e = event (spot_of r) in
            let within : (p : Spot) → is_in (spots (front ++ n ∷ []) ++ before) p ≡ true → is_in (spot_of r ∷ ok) p ≡ true = λ p here.
            sym (moved (spots front) before (spot_of r) p)
            ∙ ap (λ (l : List Spot). is_in (l ++ before) p) (ap (λ (q : Spot). spots front ++ q ∷ []) (sym (place r n took_it)) ∙ sym (map-append spot_of front (n ∷ []))) ∙ here in
            trace_more Spells site identity log log log (Know before) (Know ok) (Know (spots (front ++ n ∷ []) ++ before)) (Are (r ∷ rest)) (λ es. es ≡ e ∷ []) (Are rest) t v z
            (λ es fs are one. on r rest rest es fs (part_itself rest) are (part_one e fs one))
            (traced front (r ∷ rest) v passed)
            (trace_weaker Spells site identity log log (Know ok) (Know ok) (Know (spot_of r ∷ ok)) (Know (spots (front ++ n ∷ []) ++ before)) (λ es. es ≡ e ∷ []) (λ es. es ≡ e ∷ []) v z
            (λ core known. known) (λ es one. one) (λ core known. fewer (spot_of r ∷ ok) (spots (front ++ n ∷ []) ++ before) core within known)
            (gone r n v z ok (due_in front rest r v passed) (due front rest r v passed) ends))
        traced done left u (lost front rest r v z passed goes) =
            let ok = spots front ++ before in
            let e = event (spot_of r) in
            let drive = r.line.at.drive in
            let part : IsPart (spots (beside drive front) ++ before) ok =
            part_more (spots (beside drive front)) (spots front) before before (part_mapped spot_of (beside drive front) front (beside_part r front)) (part_itself before) in
            trace_more Spells site identity log log log (Know before) (Know ok) (Know (spots (beside drive front) ++ before)) (Are (r ∷ rest)) (IsNoneOr e) (Are (beside drive rest)) t v z
            (λ es fs are one. on r rest (beside drive rest) es fs (beside_part r rest) are (part_none_or e fs one))
            (traced front (r ∷ rest) v passed)
            (trace_weaker Spells site identity log log (Know ok) (Know ok) (Know ok) (Know (spots (beside drive front) ++ before)) (IsNoneOr e) (IsNoneOr e) v z
            (λ core known. known) (λ es one. one) (λ core known. fewer ok (spots (beside drive front) ++ before) core (λ p. in_part (spots (beside drive front) ++ before) ok p part) known)
            (going r v z ok (due_in front rest r v passed) (due front rest r v passed) goes))

        -- by any moment
        pub traced_by : (done rest : List Replica) (u : Tale) → Passed w all t done rest u → Traces Spells site identity log log (Know before) (λ es. IsPart es (events all)) (Know before) t u
        traced_by done rest u passed =
            trace_weaker Spells site identity log log (Know before) (Know before) (Know (spots done ++ before)) (Know before) (Are rest) (λ es. IsPart es (events all)) t u
            (λ core known. known) (λ es are. part_of_part es (es ++ events rest) (events all) (part_front es (events rest)) are)
            (λ core known. fewer (spots done ++ before) before core (λ p. in_part before (spots done ++ before) p (part_before before (spots done) before (part_itself before))) known)
            (traced done rest u passed)

        -- and in the end
        pub traced_all : (done : List Replica) (u : Tale) → Passed w all t done [] u → Traces Spells site identity log log (Know before) (λ es. IsPart es (events all)) (Know (spots done ++ before)) t u
        traced_all done u passed =
            trace_weaker Spells site identity log log (Know before) (Know before) (Know (spots done ++ before)) (Know (spots done ++ before)) (Are []) (λ es. IsPart es (events all)) t u
            (λ core known. known) (λ es are. subst (λ (l : List Event). IsPart l (events all)) (append-nil es) are) (λ core known. known) (traced done [] u passed)
