-- The entries that are kept are in their form, and so is what a command means with them.
use Rattle.std.proofs.Common.{◌≡◌, List, [], Option, Some, None, refl, sym, subst}
use Rattle.mdv_words.specs.Line.{IsInForm}
use Rattle.mdv_words.specs.Listed.{as_listed}
use Rattle.mdv_run_law.specs.Below.{AddListed, AddPlaces, Alter, AreInForm, Command, DropPlaces, Entry, Memory, Print, Read, Replicas, Write, listed_by, meant}

pub formed_as : (next kept : Memory) → next.entries ≡ kept.entries → AreInForm kept.entries → AreInForm next.entries
formed_as next kept same are = subst (λ (entries : List Entry). AreInForm entries) (sym same) are

pub none_formed : AreInForm []
none_formed number r is = absurd (cc (is))

pub meant_in_form : (entries : List Entry) → AreInForm entries → (command : Command) → IsInForm command → IsInForm (meant entries command)
meant_in_form entries are (AddListed number force) form = by (listed_by entries number) refl where
  by : (said : Option Replicas) → listed_by entries number ≡ said → IsInForm (as_listed number force said)
  by (Some r) is = are number r is
  by None is = tt
meant_in_form entries are (AddPlaces slices force count blocks) form = form
meant_in_form entries are (DropPlaces slices force) form = form
meant_in_form entries are (Alter alteration) form = form
meant_in_form entries are (Read volume at count) form = form
meant_in_form entries are (Write volume at what) form = form
meant_in_form entries are (Print names) form = form
