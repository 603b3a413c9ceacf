-- What is printed of a table makes it again.
use Rattle.std.specs.Prelude.{◌≡◌, ◌≤◌, ℕ, List, length, Option}
use Rattle.mdv_name.specs.Volume.{IsSetName}
use Rattle.mdv_print.specs.Entries.{IsWholePlan}
use Rattle.mdv_print.specs.Text.{tab_text}
use Rattle.mdv_tab.specs.Order.{IsOrderOfNeed}
use Rattle.mdv_tab.specs.Text.{IsTab}
use Rattle.mdv_remake.specs.Below.{DriveNo, Entry, Geometry, Table, emptied, entries_of}
use Rattle.mdv_remake.specs.Making.{AreMade, at_places}
use Rattle.mdv_remake.specs.Now.{IsAsNow}

-- these entries, made one after another on the table without its volumes and pools, aren't refused, and give its plan
pub record IsMadeAgain (g : Geometry) (drives : List DriveNo) (t : Table) (entries : List Entry) : Type 0 where
  pub new : Table
  pub made : AreMade g drives entries (emptied t) new
  pub same : new.plan ≡ t.plan

-- a table whose text is within the limits of an md.tab, and whose numbers are in range
pub record IsPrintable (set : Option (List ℕ)) (t : Table) : Type 0 where
  pub named : IsSetName set
  pub whole : IsWholePlan t.plan
  pub bytes : length (tab_text set t.plan) ≤ 65536
  pub entries : length (entries_of set t.plan) ≤ 1024

-- what its text is read as, in the order of need
abbrev pub PrintsMakeAgain : Type 0
PrintsMakeAgain = (g : Geometry) (drives : List DriveNo) (set : Option (List ℕ)) (t : Table) (entries : List Entry) (order : List ℕ) → IsAsNow g drives t.plan → IsPrintable set t →
    IsTab (tab_text set t.plan) entries → IsOrderOfNeed entries order → IsMadeAgain g drives t (at_places entries order)
