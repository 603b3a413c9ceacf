-- Calls that tell nothing and touch nothing outside an area.
use Rattle.std.proofs.Common.{◌≡◌, ℕ, false, Option, refl, ◌∙◌, ap}
use Rattle.mdv_shelf.specs.Calls.{and_then}
use Rattle.mdv_shelf.specs.Moments.{Moments}
use Rattle.mdv_shelf.proofs.Blocks.{kept_unwritten}
use Rattle.mdv_shelf.proofs.Frame.{kept_outside_more, kept_outside_same, kept_outside_wider}
use Rattle.mdv_shelf.proofs.Moments.{grew_one}
use Rattle.mdv_shelf.proofs.Settled.{told_synced}
use Rattle.mdv_look.specs.Below.{Area, Synced, Tale, Then, nowhere}
use Rattle.mdv_look.specs.Quiet.{IsQuiet, WritesNothing}

pub quiet_same : (area : Area) (t : Tale) → IsQuiet area t t
quiet_same area t = record { outside = kept_outside_same area t; quiet = refl }

pub quiet_more : (area : Area) (t u m : Tale) → IsQuiet area t u → IsQuiet area u m → IsQuiet area t m
quiet_more area t u m first second = record { outside = kept_outside_more area t u m first.outside second.outside; quiet = second.quiet ∙ first.quiet }

pub quiet_wider : (small large : Area) (t m : Tale) → ((drive block : ℕ) → large drive block ≡ false → small drive block ≡ false) → IsQuiet small t m → IsQuiet large t m
quiet_wider small large t m within is = record { outside = kept_outside_wider small large t m within is.outside; quiet = is.quiet }

pub unwritten_same : (t : Tale) → WritesNothing t t
unwritten_same t = quiet_same nowhere t

pub unwritten_more : (t u m : Tale) → WritesNothing t u → WritesNothing u m → WritesNothing t m
unwritten_more t u m first second = quiet_more nowhere t u m first second

-- where no block is written
pub unwritten_quiet : (area : Area) (t m : Tale) → WritesNothing t m → IsQuiet area t m
unwritten_quiet area t m is = quiet_wider nowhere area t m (λ drive block out. refl) is

-- a sync writes no block
pub unwritten_synced : (drive : ℕ) (old new : Option Tale) → new ≡ and_then old (Synced drive) → Moments WritesNothing old new
unwritten_synced drive old new is t told_so = (
  Then t (Synced drive),
  is ∙ ap (λ (o : Option Tale). and_then o (Synced drive)) told_so,
  grew_one (WritesNothing t) t (Synced drive) (unwritten_same t) (record { outside = λ other block out. kept_unwritten t (Synced drive) other block refl; quiet = told_synced t drive }),
)
