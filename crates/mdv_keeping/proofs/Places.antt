-- A change of volumes moves no place of a replica.
use Rattle.std.proofs.Common.{◌≡◌, refl, ap, ◌∙◌, Option, None, Some}
use Rattle.mdv_change.specs.Change.{with_changed}
use Rattle.mdv_change.specs.declared.change.Change.TheVariants.{MakeRaid, MakeMirror, MakeSoft, Attach, Detach, Offline, Online, EnablePart, ReplacePart, Grow, AddSpares, AddSparesToAll, DeleteSpares, ReplaceSpare, EnableSpares}
use Rattle.mdv_components.specs.Bases.{volume_of}
use Rattle.mdv_keeping.specs.Below.{AddRow, Change, Clear, ClearAll, ClearBelow, Geometry, Lists, MakeStripe, Table}
use Rattle.mdv_keeping.specs.Keeping.{IsStepOf}
use Rattle.mdv_plan.specs.declared.volume.Volume.{Volume as OneVolume}

changed_lists : (o : Option OneVolume) (t : Table) → (with_changed o t).plan.lists ≡ t.plan.lists
changed_lists None t = refl
changed_lists (Some v) t = refl

pub lists_stay : (g : Geometry) (change : Change) (old next : Table) → IsStepOf g change old next → next.plan.lists ≡ old.plan.lists
lists_stay g (MakeStripe v rows pool) old next step = ap (λ (t : Table). t.plan.lists) step.made.after
lists_stay g (AddRow v asked) old next step = ap (λ (t : Table). t.plan.lists) step.made.after ∙ changed_lists _ old
lists_stay g (Clear volumes pools) old next step = ap (λ (t : Table). t.plan.lists) step.made.after
lists_stay g (ClearBelow volumes pools) old next step = ap (λ (t : Table). t.plan.lists) step.made.after
lists_stay g ClearAll old next step = ap (λ (t : Table). t.plan.lists) step.made.after
lists_stay g (MakeRaid v raid) old next step = absurd step.built
lists_stay g (MakeMirror v mirror) old next step = absurd step.built
lists_stay g (MakeSoft v asked) old next step = absurd step.built
lists_stay g (Attach mirror sub) old next step = absurd step.built
lists_stay g (Detach mirror sub force) old next step = absurd step.built
lists_stay g (Offline mirror sub) old next step = absurd step.built
lists_stay g (Online mirror sub) old next step = absurd step.built
lists_stay g (EnablePart v part) old next step = absurd step.built
lists_stay g (ReplacePart v part new) old next step = absurd step.built
lists_stay g (Grow v blocks) old next step = absurd step.built
lists_stay g (AddSpares q new slices) old next step = absurd step.built
lists_stay g (AddSparesToAll slices) old next step = absurd step.built
lists_stay g (DeleteSpares pools slices) old next step = absurd step.built
lists_stay g (ReplaceSpare pools part new) old next step = absurd step.built
lists_stay g (EnableSpares slices) old next step = absurd step.built
