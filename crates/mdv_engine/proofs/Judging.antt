-- The refusal of a creation, and of places that are to go, by what its checks found.
use Rattle.std.proofs.Common.{◌≡◌, ◌≤◌, false, arith, ◌+◌, ◌*◌, ℕ, Bool, ◌&&◌, ◌||◌, not, List, length, Option, Some, sym, ap, ◌∙◌}
use Rattle.std.specs.List.{list_any}
use Rattle.std.proofs.lemmas.Bool.Decides.{nat_tests}
use Rattle.std.specs.Option.{option_or}
use Rattle.std.specs.Prelude.{is_some, nat_lt}
use Rattle.mdv_base.specs.Order.{first_refusal}
use Rattle.mdv_engine.specs.Below.{AddPlaces, Opened, Refusal, SliceName, slice_at}
use Rattle.mdv_engine_law.specs.Below.{StateWord}
use Rattle.mdv_engine_law.specs.Places.{are_all}
use Rattle.mdv_engine_law.specs.Refusals.{Case, held_of_drop, is_doubled, is_missing, is_plain, is_short, is_taken, places_open, refusal_of, rest_of, state_of_less, told_of_lists, told_of_others}
use Rattle.mdv_engine_law.proofs.Judging.{creation_is_told, drop_is_told, told_of_less, told_of_replicas}

-- by whether each cause holds
pub told_of_checks : (case : Case) (slices : List SliceName) (force : Bool) (count blocks : ℕ) (missing plain down many unforced taken small : Bool) → list_any (is_missing case.host) slices ≡ missing
    → list_any (λ slice. is_plain (slice_at case.host.drives.slices slice)) slices ≡ plain → (not (is_some case.memory.opened) && not case.memory.clean) ≡ down → nat_lt 50 (length (places_open case.memory.opened) + length slices * count) ≡ many
    → (not (is_some case.memory.opened) && not force) ≡ unforced → (list_any (is_taken case) slices || is_doubled slices) ≡ taken → list_any (is_short case.host count blocks) slices ≡ small
    → option_or (told_of_replicas missing plain down many unforced taken small) (told_of_others case.memory.opened slices count blocks) ≡ refusal_of case (AddPlaces slices force count blocks)
told_of_checks case slices force count blocks missing plain down many unforced taken small a b c d e f g =
    sym (creation_is_told case slices force count blocks ∙ (λ i. option_or (told_of_replicas (a i) (b i) (c i) (d i) (e i) (f i) (g i)) (told_of_others case.memory.opened slices count blocks)))

-- where one of them holds it is told, whatever is open
pub told_of_cause : (case : Case) (slices : List SliceName) (force : Bool) (count blocks : ℕ) (missing plain down many unforced taken small : Bool) → list_any (is_missing case.host) slices ≡ missing
    → list_any (λ slice. is_plain (slice_at case.host.drives.slices slice)) slices ≡ plain → (not (is_some case.memory.opened) && not case.memory.clean) ≡ down → nat_lt 50 (length (places_open case.memory.opened) + length slices * count) ≡ many
    → (not (is_some case.memory.opened) && not force) ≡ unforced → (list_any (is_taken case) slices || is_doubled slices) ≡ taken → list_any (is_short case.host count blocks) slices ≡ small
    → (r : Refusal) → told_of_replicas missing plain down many unforced taken small ≡ Some r → Some r ≡ refusal_of case (AddPlaces slices force count blocks)
told_of_cause case slices force count blocks missing plain down many unforced taken small a b c d e f g r first =
    sym (ap (λ (told : Option Refusal). option_or told (told_of_others case.memory.opened slices count blocks)) first) ∙ told_of_checks case slices force count blocks missing plain down many unforced taken small a b c d e f g

-- where places are to go
module _ (case : Case) (o : Opened) (slices : List SliceName) (force : Bool) (missing plain unforced : Bool) (state : Option StateWord) (a : list_any (is_missing case.host) slices ≡ missing)
    (b : list_any (λ slice. is_plain (slice_at case.host.drives.slices slice)) slices ≡ plain) (s : state_of_less case o slices ≡ state) (f : (are_all o slices && not force) ≡ unforced) where
  pub drop_of_checks : option_or (told_of_less missing plain state unforced) (told_of_lists o (rest_of o slices)) ≡ first_refusal (held_of_drop case (Some o) slices force)
  drop_of_checks = sym (drop_is_told case o slices force ∙ (λ i. option_or (told_of_less (a i) (b i) (s i) (f i)) (told_of_lists o (rest_of o slices))))

  pub drop_of_cause : (r : Refusal) → told_of_less missing plain state unforced ≡ Some r → first_refusal (held_of_drop case (Some o) slices force) ≡ Some r
  drop_of_cause r first = sym drop_of_checks ∙ ap (λ (told : Option Refusal). option_or told (told_of_lists o (rest_of o slices))) first

-- no more than a database lists
pub few_enough : (n : ℕ) → nat_lt 50 n ≡ false → n ≤ 50
few_enough n is = grind (arith, nat_tests)
