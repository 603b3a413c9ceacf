-- A line that adds what a kept entry says does what a line does that says it itself; but what its database is told is that the entry was asked.
use Rattle.std.proofs.Common.{◌≡◌, inl, inr, ℕ, List, [], ◌∷◌, Option, Some, None, Contains, sym, subst}
use Rattle.mdv_store_law.specs.Changes as changes
use Rattle.mdv_places.specs.Asked.{names_of}
use Rattle.mdv_volumes.proofs.Lists.{contains_first, first_or_behind}
use Rattle.mdv_words.specs.declared.command.Command.TheVariants.{Alter}
use Rattle.mdv_engine_law.specs.Below.{AddListed, AddPlaces, Changed, Command, Created, Deed, DropPlaces, Entry, History, Key, KeptOutside, Print, Read, Replicas, Tale, Write, joined, listed_by, meant}
use Rattle.mdv_engine_law.specs.declared.host.Host.{Host}
use Rattle.mdv_engine_law.specs.Hosts.{key_of, lines_asked, listed_area, opened_area}
use Rattle.mdv_engine_law.specs.Line.{Ask, Memory, ToMake, ToMakeListed, asked_by, deeds}
use Rattle.mdv_engine_law.specs.Standing.{CarryMoment, Goes, IsKnown, Reached}
use Rattle.mdv_engine_law.proofs.Going.{not_other}
use Rattle.mdv_words.specs.Listed.{as_listed}

module _ (host : Host) (key : Key) (number : ℕ) (memory : Memory) (r : Replicas) (is : listed_by memory.entries number ≡ Some r) where
  abbrev said : Ask
  said = ToMake key (lines_asked host r.slices) r.count r.blocks

  -- a moment of it, where each history goes on by what it asks itself
  pub listed_moment : (t m : Tale) → CarryMoment host said memory t m → ((h : History) → IsKnown host memory h t → Goes host (deeds (ToMakeListed key number)) [] Reached m h) → CarryMoment host (ToMakeListed key number) memory t m
  listed_moment t m moment goes = record {
    home = moment.home;
    within = (moment.within.0, subst (λ (o : Option Replicas). KeptOutside (joined (listed_area host o) (opened_area memory.opened)) t m) (sym is) moment.within.1);
    quiet = moment.quiet;
    goes = λ h known. inr (goes h known);
  }

-- what a command means asks a creation where it does
pub meant_created : (host : Host) (entries : List Entry) (command : Command) (key : Key) → Contains (deeds (asked_by host (meant entries command))) (Created key) → Contains (deeds (asked_by host command)) (Created key)
meant_created host entries (AddListed number force) key has = by (listed_by entries number) has where
  by : (said : Option Replicas) → Contains (deeds (asked_by host (as_listed number force said))) (Created key) → Contains (deeds (asked_by host (AddListed number force))) (Created key)
  by None here = here
  by (Some r) here = elim (first_or_behind (Created (key_of host)) (Created key) (Changed (key_of host) (changes.AddPlaces (names_of (lines_asked host r.slices)) r.count r.blocks) ∷ []) here) [
    | inl same ↦ subst (λ (deed : Deed). Contains (Created (key_of host) ∷ Changed (key_of host) (changes.AddListed number) ∷ []) deed) same (contains_first (Created (key_of host)) (Changed (key_of host) (changes.AddListed number) ∷ []))
    | inr behind ↦ absurd (not_other (Changed (key_of host) (changes.AddPlaces (names_of (lines_asked host r.slices)) r.count r.blocks)) (Created key) (λ same. cc (same)) behind)
  ]
meant_created host entries (AddPlaces slices force count blocks) key has = has
meant_created host entries (DropPlaces slices force) key has = has
meant_created host entries (Alter alteration) key has = has
meant_created host entries (Read volume at count) key has = has
meant_created host entries (Write volume at what) key has = has
meant_created host entries (Print names) key has = has
