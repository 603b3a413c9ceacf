-- The letters of a place that a survey looked for.
use Rattle.std.specs.Prelude.{◌&&◌, ◌==◌, not, Bool, true, false, List, Option, None, Some, if◌then◌else◌}
use Rattle.std.specs.List.{find, list_any}
use Rattle.mdv_name.specs.SliceIndex.{same_slice}
use Rattle.mdv_survey.specs.Below.{Drives, Flags, Place, Site, SliceLine, has_drive}
use Rattle.mdv_survey.specs.Others.{seen_flags}
use Rattle.mdv_survey.specs.declared.replica.Other.{Other}
use Rattle.mdv_survey.specs.declared.replica.Replica.{Replica}

-- the letter of a readable replica, of a place on a drive that didn't answer, and none
abbrev pub located_alone : Flags
located_alone = seen_flags true false false false

abbrev pub no_letters : Flags
no_letters = seen_flags false false false false

abbrev pub unread_alone : Flags
unread_alone = record no_letters { read_error = true }

-- the replica begins at the place's first block, whichever length each of them has
abbrev pub begins_at : Place → Replica → Bool
begins_at place r = same_slice r.head.master.slice place.slice && (r.head.master.start == place.start)

abbrev pub is_other_at : Place → Other → Bool
is_other_at place other = same_slice other.line.name place.slice && (other.start == place.start)

-- the place is on this slice, on a drive that didn't answer
abbrev pub is_unread_on : Drives → Place → SliceLine → Bool
is_unread_on answered place line = same_slice line.name place.slice && not (has_drive answered line.at.drive)

-- of a place without a readable replica: the first look at it, or that its drive didn't answer; none where it wasn't looked at
abbrev pub letters_of_other : Option Other → Bool → Flags
letters_of_other (Some other) unread = other.flags
letters_of_other None true = unread_alone
letters_of_other None false = no_letters

-- what a survey that found these replicas and other places tells of a place, where these drives answered
abbrev pub letters_at : Site → List Replica → List Other → Drives → Place → Flags
letters_at site replicas others answered place =
    if list_any (begins_at place) replicas
    then located_alone
    else letters_of_other (find (is_other_at place) others) (list_any (is_unread_on answered place) site.lines)
