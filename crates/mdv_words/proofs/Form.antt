-- A line makes 1 to 50 replicas of 16 to 8192 blocks on one slice or more, a volume of rows of slices, or a row more of slices, and reads or writes one block at least.
use Rattle.std.proofs.Common.{◌≡◌, ℕ, ◌≤◌, ◌&&◌, Bool, true, false, if◌then◌else◌, Option, None, Some, refl, sym, subst, List, length, replicate, arith}
use Rattle.std.specs.Prelude.{IfSome}
use Rattle.std.proofs.lemmas.List.{length-replicate}
use Rattle.mdv_base.specs.declared.name.Named.{Named}
use Rattle.std.specs.Option.{is_none}
use Rattle.mdv_grammar.specs.Below.{words}
use Rattle.mdv_name.specs.declared.volume.VolName.{VolName}
use Rattle.mdv_tab.specs.declared.entry.Entry.{Entry}
use Rattle.mdv_tab.specs.declared.entry.Row.{Row}
use Rattle.mdv_command.specs.declared.command.Command.{Command as Wanted}
use Rattle.mdv_command.specs.declared.command.Command.TheVariants as wanted
use Rattle.mdv_remake.specs.Asked.{is_few, is_short_row, is_within}
use Rattle.mdv_words.specs.declared.command.Alteration.TheVariants.{Attach, Clear, ClearAll, Make}
use Rattle.mdv_words.specs.declared.command.Command.{Command}
use Rattle.mdv_words.specs.declared.written.Written.TheVariants.{Filled, One}
use Rattle.mdv_words.specs.Line.{IsCommand, IsCount, IsInForm, IsLength, attach_of, blocks_of, blocks_or_default, built_of, clear_of, count_or_default, is_built, is_of_slices, make_of, on_local, print_of}
use Rattle.mdv_words.proofs.Asked.{Keeps, command_keeps}

abbrev Formed : Option Command → Type 0
Formed command = IfSome command IsInForm

pub count_formed : (count : Option ℕ) → IfSome count IsCount → IsCount (count_or_default count)
count_formed None is = (omega arith, omega arith)
count_formed (Some n) is = is

pub length_formed : (blocks : Option ℕ) → IfSome blocks IsLength → IsLength (blocks_or_default blocks)
length_formed None is = (omega arith, omega arith)
length_formed (Some n) is = is

print_formed : (set : Option (List ℕ)) (names : List Named) (printed : Bool) → Formed (print_of set names printed)
print_formed None names true = tt
print_formed set names printed = tt

make_formed : (entry : Entry) → Formed (make_of entry)
make_formed entry = by (is_built entry) (is_within entry) refl refl where
  by : (built within : Bool) → is_built entry ≡ built → is_within entry ≡ within → Formed (if built && within then Some (Command.Alter (Make entry)) else None)
  by true true is fits = (is, fits)
  by true false is fits = tt
  by false within is fits = tt

attach_formed : (name : VolName) (row : Row) → Formed (attach_of name row)
attach_formed name row = by (is_none name.set) (is_of_slices row) (is_short_row row) refl refl where
  by : (local slices short : Bool) → is_of_slices row ≡ slices → is_short_row row ≡ short → Formed (if local && (slices && short) then Some (Command.Alter (Attach name.volume row)) else None)
  by true true true are is = (are, is)
  by true true false are is = tt
  by true false short are is = tt
  by false slices short are is = tt

clear_formed : (set : Option (List ℕ)) (names : List Named) (below : Bool) → Formed (clear_of set names below)
clear_formed None names below = by (is_few names) refl where
  by : (few : Bool) → is_few names ≡ few → Formed (if few then Some (Command.Alter (Clear names below)) else None)
  by true is = is
  by false is = tt
clear_formed (Some set) names below = tt

filled_formed : (count byte : ℕ) → 1 ≤ count → 1 ≤ length (blocks_of (Filled count byte))
filled_formed count byte some = subst (λ (n : ℕ). 1 ≤ n) (sym (length-replicate count (replicate 512 byte))) some

local_formed : (set : Option (List ℕ)) (command : Command) → IsInForm command → Formed (on_local set command)
local_formed None command is = is
local_formed (Some s) command is = tt

built_formed : (asked : Wanted) → Keeps asked → Formed (built_of asked)
built_formed (wanted.AddReplicas slices options force) keeps = (keeps.0, count_formed options.count keeps.1, length_formed options.blocks keeps.2)
built_formed (wanted.AddListed number force) keeps = tt
built_formed (wanted.DeleteReplicas slices force) keeps = keeps
built_formed (wanted.Make entry force) keeps = make_formed entry
built_formed (wanted.Attach volume components interlace) keeps = attach_formed volume (record { components = components; interlace = interlace })
built_formed (wanted.Clear set names below) keeps = clear_formed set names below
built_formed (wanted.ClearAll set) keeps = local_formed set (Command.Alter ClearAll) tt
built_formed (wanted.Read volume at count) keeps = local_formed volume.set (Command.Read volume.volume at count) keeps
built_formed (wanted.Write volume at block) keeps = local_formed volume.set (Command.Write volume.volume at (One block)) (omega arith)
built_formed (wanted.Fill volume at count byte) keeps = local_formed volume.set (Command.Write volume.volume at (Filled count byte)) (filled_formed count byte keeps)
built_formed (wanted.Status set names printed) keeps = print_formed set names printed
built_formed _ keeps = tt

pub commands_are_in_form : (text : List ℕ) (c : Command) → IsCommand text c → IsInForm c
commands_are_in_form text c is = subst Formed is.built (built_formed is.asked (command_keeps (words text) is.asked is.line.asks))
