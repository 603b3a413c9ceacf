-- The nine letters of a listed place: what a boot's look found there, or a creation made, and what came since.
use Rattle.std.specs.Prelude.{◌≡◌, ◌&&◌, ◌||◌, ◌==◌, not, ℕ, Bool, true, false, List, [], ◌∷◌, map, slice_get, Option, None, Some, MatchOption}
use Rattle.std.specs.List.{find, list_any}
use Rattle.mdv_base.specs.DriveSet.{Drives}
use Rattle.mdv_base.specs.declared.flags.Flags.{Flags}
use Rattle.mdv_replica.specs.declared.forms.Gate.{Gate}
use Rattle.mdv_replica.specs.declared.forms.Gate.TheVariants.{Closed, Open}
use Rattle.mdv_survey.specs.Choice.{is_of, place_of}
use Rattle.mdv_survey.specs.Letters.{letters_at, located_alone}
use Rattle.mdv_survey.specs.declared.replica.Newest.{Newest}
use Rattle.mdv_survey.specs.declared.replica.Survey.{Survey}
use Rattle.mdv_config.specs.Lists.{same_place}
use Rattle.mdv_store.specs.Below.{Identity, Mark, Place, Replica, Site, last_of, record_bytes}
use Rattle.mdv_store.specs.Boot.{seat_for}
pub use Rattle.mdv_store.specs.Shares.{is_active, is_seat_at}
use Rattle.mdv_store.specs.Text.{blocks_for}
use Rattle.mdv_store.specs.declared.letters.Lettered.{Lettered}
use Rattle.mdv_store.specs.declared.seats.Seat.{Seat}

-- the gate is open under this mark
abbrev pub is_under : Mark → Gate → Bool
is_under mark Closed = false
is_under mark (Open own bytes) = (own.boot == mark.boot) && (own.count == mark.count)

-- a replica of this identity lies just at the place, and shows a table under this mark
abbrev pub shows_at : Identity → Mark → Place → Replica → Bool
shows_at identity mark place r = is_of identity r && (same_place (place_of r) place && (is_under mark r.head.first || is_under mark r.head.second))

-- Of each place what was seen, of which it matters whether one before it was the master.
abbrev pub letters_from : (Bool → Place → Flags) → Bool → List Place → List Lettered
letters_from seen was [] = []
letters_from seen was (p ∷ ps) = record { place = p; flags = seen was p } ∷ letters_from seen (was || (seen was p).master) ps

-- the places that the letters are of
abbrev pub places_seen : List Lettered → List Place
places_seen letters = map (λ (l : Lettered). l.place) letters

-- What a look saw of a place of the database with this identity, whose newest table has this mark and a text of so many blocks: it is active where its seat has a
-- replica, and the master where it showed that table and none before it did.
abbrev pub seen_at : Site → Survey → Drives → Identity → Mark → ℕ → Bool → Place → Flags
seen_at site survey answered identity mark text was place =
    record (letters_at site survey.replicas survey.others answered place) { active = is_active (seat_for survey.replicas identity text place); master = list_any (shows_at identity mark place) survey.replicas && not was }

-- the letters of the places that the newest table lists, in their order; of its new list, where it has two
pub record AreRead (site : Site) (survey : Survey) (answered : Drives) (newest : Newest) (letters : List Lettered) : Type 0 where
  pub replica : Replica
  pub one_of : slice_get survey.replicas newest.replica ≡ Some replica
  pub letters_are : letters ≡ letters_from (seen_at site survey answered replica.head.master.identity newest.mark (blocks_for (record_bytes newest.table))) false (last_of newest.table.plan.lists)

-- there are none where the survey found no table
abbrev pub AreLettersOf : Site → Survey → Drives → List Lettered → Type 0
AreLettersOf site survey answered letters = MatchOption survey.newest (letters ≡ []) (λ newest. AreRead site survey answered newest letters)

-- a creation's: each place was formatted and is active, and the first one is the master
abbrev pub made_flags : Bool → Flags
made_flags was = record located_alone { active = true; master = not was }

abbrev pub letters_made : List Place → List Lettered
letters_made places = letters_from (λ was place. made_flags was) false places

-- A seat's letters now: it is up to date where it is active, and a write failed where it was active and isn't.
abbrev pub letters_now : Seat → Flags → Flags
letters_now s was = record was { active = is_active s; updated = is_active s; write_error = was.active && not (is_active s) }

abbrev pub is_lettered_at : Place → Lettered → Bool
is_lettered_at place l = same_place l.place place

-- the letters of a place that is listed, and of which something was seen
abbrev pub flags_by : Option Seat → Option Lettered → Option Flags
flags_by None seen = None
flags_by (Some s) None = None
flags_by (Some s) (Some l) = Some (letters_now s l.flags)

-- those of the place's seat, beside what was seen of the place
abbrev pub flags_at : List Seat → List Lettered → Place → Option Flags
flags_at seats seen place = flags_by (find (is_seat_at place) seats) (find (is_lettered_at place) seen)
