-- The story of a tale whose calls have their counts in a list.
use Rattle.std.specs.Prelude.{◌≡◌, List, [], ◌∷◌, Some, None, refl}
use Rattle.std.specs.Option.{option_map}
use Rattle.std.proofs.Common.{ap}
use Rattle.mdv_shelf.specs.Tale.{Tale, Begun, Then}
use Rattle.mdv_shelf.specs.Story.{Story, Tally, Opened, Next, tale_of}

-- a tale with these counts, the newest call's first; where the list ends, nothing had failed, and no calls are told
abbrev pub with_counts : Tale → List Tally → Story
with_counts (Begun start) counts = Opened start
with_counts (Then t c) [] = Next (with_counts t []) c (record { faults = λ part. 0; effort = record { calls = None; written = None } })
with_counts (Then t c) (tally ∷ counts) = Next (with_counts t counts) c tally

-- its tale is that tale
same_tale : (t : Tale) (counts : List Tally) → t ≡ tale_of (with_counts t counts)
same_tale (Begun start) counts = refl
same_tale (Then t c) [] = ap (λ (u : Tale). Then u c) (same_tale t [])
same_tale (Then t c) (tally ∷ counts) = ap (λ (u : Tale). Then u c) (same_tale t counts)

pub tells_tale : (t : Tale) (counts : List Tally) → Some t ≡ option_map tale_of (Some (with_counts t counts))
tells_tale t counts = ap Some (same_tale t counts)
