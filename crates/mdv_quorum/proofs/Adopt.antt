-- The table that a boot chooses, and the number that it draws.
use Rattle.std.proofs.Common.{◌≡◌, ◌<◌, ◌≤◌, ℕ, Bool, true, false, refl, ap, sym, ◌∙◌, subst, List, [], ◌∷◌, length, inl, inr, Option, None, Some, arith, max}
use Rattle.std.proofs.lemmas.Bool.{cases_Bool, false≢true, cases_lt, or_cases, cond-true, cond-false}
use Rattle.mdv_quorum.specs.Below.{Spot, Version, SpotState, is_in, same_spot, table_at, place_at, boot_of, newest_of, greatest_of, shown, knows_above, is_above}
use Rattle.mdv_votes.proofs.Meeting.{same_is}
use Rattle.mdv_votes.proofs.Newest.{newest_is_greatest}
use Rattle.mdv_votes.proofs.PlacesAt.{spot_at}
use Rattle.mdv_quorum.proofs.Invariant.{newest, claim, TablesOk, Above}

-- a place that isn't a seat shows its newest table
shown_place : (places : List SpotState) (q : Spot) → q.mediator ≡ false → shown (place_at places q) ≡ newest places q
shown_place places q place =
    cond-false (place_at places q).spot.mediator None (newest places q) (ap (λ (s : Spot). s.mediator) (spot_at places q) ∙ place)

shown_cases : (places : List SpotState) (q : Spot) (j : ℕ) → shown (place_at places q) ≡ Some j → (q.mediator ≡ false) × (newest places q ≡ Some j)
shown_cases places q j e =
    elim (cases_Bool q.mediator) [
      | inl seat ↦
          absurd (none_is j (sym (cond-true (place_at places q).spot.mediator None (newest places q) (ap (λ (s : Spot). s.mediator) (spot_at places q) ∙ seat)) ∙ e))
      | inr place ↦ (place, sym (shown_place places q place) ∙ e)
    ]
  where
    none_is : (k : ℕ) → None ≡ Some k → ⊥
    none_is k x = cc

-- what a boot that reads these places chooses
pub record IsNewest (places : List SpotState) (read : List Spot) (i : ℕ) : Type 0 where
  pub place : Spot
  pub was_read : is_in read place ≡ true
  pub kind : place.mediator ≡ false
  pub shows : newest places place ≡ Some i
  pub greatest : (q : Spot) (j : ℕ) → is_in read q ≡ true → q.mediator ≡ false → newest places q ≡ Some j → j ≤ i

pub newest_is : (set : Bool) (family : List Version) (places : List SpotState) (read : List Spot) (i : ℕ) → TablesOk set family
    → ((q : Spot) (j : ℕ) → newest places q ≡ Some j → j < length family) → newest_of family places None read ≡ Some i → IsNewest places read i
newest_is set family places read i ok known e =
    let n = newest_is_greatest family places read i e in
    let s = shown_cases places n.place i n.shows in
    record {
      place = n.place;
      was_read = n.was_read;
      kind = s.0;
      shows = s.1;
      greatest = λ q j has place shows. elim (cases_lt i j) [
        | inl less ↦ absurd (false≢true (sym (n.greatest q j has (shown_place places q place ∙ shows)) ∙ ok.marks i j less (known q j shows)))
        | inr least ↦ least
      ];
    }

-- the greatest number is none below one that was read
greatest_best : (family : List Version) (places : List SpotState) (ps : List Spot) (best : ℕ) → best ≤ greatest_of family places best ps
greatest_best family places [] best = omega arith
greatest_best family places (p ∷ ps) best =
    let seen = max (place_at places p).claim (boot_of family (place_at places p).newest) in
    omega (arith, greatest_best family places ps (max best seen))

pub greatest_at : (family : List Version) (places : List SpotState) (ps : List Spot) (best : ℕ) (q : Spot) → is_in ps q ≡ true
    → (claim places q ≤ greatest_of family places best ps) × (boot_of family (newest places q) ≤ greatest_of family places best ps)
greatest_at family places [] best q has = absurd (false≢true has)
greatest_at family places (p ∷ ps) best q has =
    let seen = max (place_at places p).claim (boot_of family (place_at places p).newest) in
    elim (or_cases (same_spot p q) (is_in ps q) has) [
      | inl is ↦
          let least = greatest_best family places ps (max best seen) in
          subst (λ (s : Spot). (claim places s ≤ greatest_of family places (max best seen) ps) × (boot_of family (newest places s) ≤ greatest_of family places (max best seen) ps))
          (same_is p q is) (omega (arith, least), omega (arith, least))
      | inr rest ↦ greatest_at family places ps (max best seen) q rest
    ]

-- one that shows a table above knows a greater mark
pub above_known : (set : Bool) (family : List Version) (places : List SpotState) (i : ℕ) (q : Spot) → TablesOk set family
    → ((j : ℕ) → newest places q ≡ Some j → j < length family) → Above (newest places q) i → knows_above family places (table_at family i) q ≡ true
above_known set family places i q ok known above = at (newest places q) refl above
  where
    at : (o : Option ℕ) → newest places q ≡ o → Above o i → is_above family (table_at family i) (newest places q) ≡ true
    at None e h = absurd h
    at (Some j) e h = ap (is_above family (table_at family i)) e ∙ ok.marks i j h (known j e)
