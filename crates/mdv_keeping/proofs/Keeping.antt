-- A change leaves a table of the table of drives.
use Rattle.std.proofs.Common.{◌≡◌, false, sym, subst, List}
use Rattle.mdv_change.specs.Levels.{with_levels}
use Rattle.mdv_change.specs.declared.change.Change.TheVariants.{MakeRaid, MakeMirror, MakeSoft, Attach, Detach, Offline, Online, EnablePart, ReplacePart, Grow, AddSpares, AddSparesToAll, DeleteSpares, ReplaceSpare, EnableSpares}
use Rattle.mdv_config.proofs.Settled.{settled_of}
use Rattle.mdv_keeping.specs.Below.{AddRow, Change, Clear, ClearAll, ClearBelow, DriveNo, Geometry, IsListsOf, IsMade, IsOfGeometry, IsSound, Lists, MakeStripe, Table, with_lists}
use Rattle.mdv_keeping.specs.Built.{IsBuilt, names_db}
use Rattle.mdv_keeping.specs.Keeping.{TablesStay}
use Rattle.mdv_keeping.proofs.Adding.{added_kept}
use Rattle.mdv_keeping.proofs.Apart.{replicas_clear}
use Rattle.mdv_keeping.proofs.Clearing.{cleared_kept, emptied_kept}
use Rattle.mdv_keeping.proofs.Making.{stripe_kept}

kept : (g : Geometry) (drives : List DriveNo) (change : Change) (old next : Table) → IsSound g → IsOfGeometry g old → IsBuilt change → names_db g change ≡ false → IsMade g drives change old next → IsOfGeometry g next
kept g drives (MakeStripe v rows pool) old next sound is built plain made =
    subst (IsOfGeometry g) (sym made.after) (stripe_kept g sound drives old is v rows pool built.0 built.1 built.2 plain made.allowed)
kept g drives (AddRow v asked) old next sound is built plain made = subst (IsOfGeometry g) (sym made.after) (added_kept g sound drives old is v asked built plain made.allowed)
kept g drives (Clear volumes pools) old next sound is built plain made = subst (IsOfGeometry g) (sym made.after) (cleared_kept g old is sound volumes pools)
kept g drives (ClearBelow volumes pools) old next sound is built plain made = subst (IsOfGeometry g) (sym made.after) (cleared_kept g old is sound (with_levels old.plan volumes) pools)
kept g drives ClearAll old next sound is built plain made = subst (IsOfGeometry g) (sym made.after) (emptied_kept g old is)
kept g drives (MakeRaid v raid) old next sound is built plain made = absurd built
kept g drives (MakeMirror v mirror) old next sound is built plain made = absurd built
kept g drives (MakeSoft v asked) old next sound is built plain made = absurd built
kept g drives (Attach mirror sub) old next sound is built plain made = absurd built
kept g drives (Detach mirror sub force) old next sound is built plain made = absurd built
kept g drives (Offline mirror sub) old next sound is built plain made = absurd built
kept g drives (Online mirror sub) old next sound is built plain made = absurd built
kept g drives (EnablePart v part) old next sound is built plain made = absurd built
kept g drives (ReplacePart v part new) old next sound is built plain made = absurd built
kept g drives (Grow v blocks) old next sound is built plain made = absurd built
kept g drives (AddSpares q new slices) old next sound is built plain made = absurd built
kept g drives (AddSparesToAll slices) old next sound is built plain made = absurd built
kept g drives (DeleteSpares pools slices) old next sound is built plain made = absurd built
kept g drives (ReplaceSpare pools part new) old next sound is built plain made = absurd built
kept g drives (EnableSpares slices) old next sound is built plain made = absurd built

moved : (g : Geometry) (t : Table) (lists : Lists) → IsSound g → IsOfGeometry g t → IsListsOf g lists → IsOfGeometry g (with_lists t lists)
moved g t lists sound is are = record {
  lists = are;
  numbers = is.numbers;
  kinds = is.kinds;
  apart = record { components = is.apart.components; replicas = replicas_clear g sound lists are t.plan.volumes is.kinds };
  alone = record { set = is.alone.set; pending = is.alone.pending; pools = is.alone.pools };
  quiet = is.quiet;
}

pub tables_stay : TablesStay
tables_stay = record { kept = kept; settled_kept = λ g t sound is. settled_of g t is; moved_kept = moved }
