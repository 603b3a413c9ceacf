-- When a table is written, when a boot's claims suffice, and when what was read suffices.
use Rattle.std.specs.Prelude.{◌&&◌, ◌||◌, not, Bool, List, cond}
use Rattle.std.specs.List.{list_any}
use Rattle.mdv_votes.specs.declared.spot.Spot.{Spot}
use Rattle.mdv_votes.specs.declared.version.Version.{Version}
use Rattle.mdv_votes.specs.Spots.{is_majority, is_half, is_none, covers}

-- At least half of each list took the table. With mediators exactly half of a list doesn't suffice
-- unless more than half of the mediators took its mark too.
abbrev pub is_written_list : Bool → List Spot → (Spot → Bool) → List Spot → Bool
is_written_list by_majority mediators took list =
    is_majority took list || (not by_majority && (is_half took list && (is_none mediators || is_majority took mediators)))

abbrev pub is_written : Version → (Spot → Bool) → Bool
is_written t took = covers (is_written_list t.by_majority t.lists.mediators took) t.lists

-- Claims go the same way, but those for a set's table without mediators need more than half of each
-- list: so they meet each half by which a table with mediators, one change away, could be read.
abbrev pub is_claimed_list : Bool → List Spot → (Spot → Bool) → List Spot → Bool
is_claimed_list set mediators claimed list =
    is_majority claimed list || (is_half claimed list && cond (is_none mediators) (not set) (is_majority claimed mediators))

abbrev pub is_claimed : Bool → Version → (Spot → Bool) → Bool
is_claimed set t claimed = covers (is_claimed_list set t.lists.mediators claimed) t.lists

-- More than half of each list was read. With mediators exactly half suffices where more than half of
-- the mediators were read and none of these knows a greater mark.
abbrev pub is_read_list : List Spot → (Spot → Bool) → (Spot → Bool) → List Spot → Bool
is_read_list mediators read knows_greater list =
    is_majority read list
    || ((not (is_none mediators) && is_half read list)
    && (is_majority read mediators && not (list_any (λ m. read m && knows_greater m) mediators)))

abbrev pub is_read : Version → (Spot → Bool) → (Spot → Bool) → Bool
is_read t read knows_greater = covers (is_read_list t.lists.mediators read knows_greater) t.lists
