-- The family of tables, and what a place shows of it.
use Rattle.std.specs.Prelude.{ℕ, ◌+◌, ◌&&◌, ◌||◌, ◌==◌, Bool, true, false, List, [], ◌∷◌, Option, None, Some, nat_lt, max, cond, slice_index_or, map}
use Rattle.mdv_base.specs.declared.mark.Mark.{Mark}
use Rattle.mdv_votes.specs.declared.spot.Spot.{Spot}
use Rattle.mdv_votes.specs.declared.spot.SpotLists.{SpotLists}
use Rattle.mdv_votes.specs.declared.version.Version.{Version}
use Rattle.mdv_votes.specs.declared.version.SpotState.{SpotState}
use Rattle.mdv_votes.specs.declared.version.Since.{Since}
use Rattle.mdv_votes.specs.declared.version.Since.TheVariants.{Never, Listed, Dropped}
use Rattle.mdv_votes.specs.Spots.{same_spot, is_in}

-- boot before count
abbrev pub mark_below : Mark → Mark → Bool
mark_below a b = nat_lt a.boot b.boot || ((a.boot == b.boot) && nat_lt a.count b.count)

abbrev pub no_lists : SpotLists
no_lists = record { first = []; second = None; mediators = [] }

abbrev pub no_table : Version
no_table = record { mark = record { boot = 0; count = 0 }; parent = None; change = None; lists = no_lists; by_majority = false; plan = [] }

-- the table of this number in the family
abbrev pub table_at : List Version → ℕ → Version
table_at family i = slice_index_or family i no_table

-- the boot number of a table that a place shows, 0 where it shows none
abbrev pub boot_of : List Version → Option ℕ → ℕ
boot_of family None = 0
boot_of family (Some i) = (table_at family i).mark.boot

-- what is known of a place of which nothing was told
abbrev pub blank_place : Spot → SpotState
blank_place p = record { spot = p; holds = false; claim = 0; newest = None; since = Never; floor = 0 }

abbrev pub place_at : List SpotState → Spot → SpotState
place_at [] p = blank_place p
place_at (x ∷ xs) p = cond (same_spot x.spot p) x (place_at xs p)

-- one place changed
abbrev pub changed_at : Spot → (SpotState → SpotState) → SpotState → SpotState
changed_at p f x = cond (same_spot x.spot p) (f x) x

abbrev pub change_at : List SpotState → Spot → (SpotState → SpotState) → List SpotState
change_at places p f = map (changed_at p f) places

-- the same, and a place that is new to the list goes to its end
abbrev pub put_at : List SpotState → Spot → (SpotState → SpotState) → List SpotState
put_at [] p f = f (blank_place p) ∷ []
put_at (x ∷ xs) p f = cond (same_spot x.spot p) (f x ∷ xs) (x ∷ put_at xs p f)

-- the same by what is put there: where it stands, or at the end
abbrev pub replaced_at : List SpotState → Spot → SpotState → List SpotState
replaced_at [] p y = y ∷ []
replaced_at (x ∷ xs) p y = cond (same_spot x.spot p) (y ∷ xs) (x ∷ replaced_at xs p y)

abbrev pub index_at : List SpotState → Spot → ℕ
index_at [] p = 0
index_at (x ∷ xs) p = cond (same_spot x.spot p) 0 (index_at xs p + 1)

abbrev pub with_claim : ℕ → SpotState → SpotState
with_claim n x = record { spot = x.spot; holds = x.holds; claim = n; newest = x.newest; since = x.since; floor = x.floor }

abbrev pub with_newest : ℕ → SpotState → SpotState
with_newest i x = record { spot = x.spot; holds = x.holds; claim = x.claim; newest = Some i; since = x.since; floor = x.floor }

abbrev pub wiped : SpotState → SpotState
wiped x = record { spot = x.spot; holds = false; claim = x.claim; newest = x.newest; since = x.since; floor = x.floor }

-- A place that was dropped and is formatted again has a floor: the first firm table whose last list no
-- longer had it. For a table below that one it has no say until it takes a table.
abbrev pub raised : ℕ → Since → ℕ
raised floor Never = floor
raised floor Listed = floor
raised floor (Dropped i) = max floor i

-- formatted: a claim and no table; of a mediator's seat the mark of the firm table
abbrev pub formatted : ℕ → Option ℕ → SpotState → SpotState
formatted n newest x = record { spot = x.spot; holds = true; claim = n; newest = newest; since = x.since; floor = raised x.floor x.since }

-- where a place stands once this table is firm
abbrev pub since_after : ℕ → Bool → Since → Since
since_after i true since = Listed
since_after i false Never = Never
since_after i false Listed = Dropped i
since_after i false (Dropped k) = Dropped k

abbrev pub with_since : ℕ → List Spot → SpotState → SpotState
with_since i list x = record { spot = x.spot; holds = x.holds; claim = x.claim; newest = x.newest; since = since_after i (is_in list x.spot) x.since; floor = x.floor }

-- A boot takes of the tables shown the one with the greatest mark.
abbrev pub newer : List Version → Option ℕ → Option ℕ → Option ℕ
newer family None b = b
newer family (Some a) None = Some a
newer family (Some a) (Some b) = cond (mark_below (table_at family a).mark (table_at family b).mark) (Some b) (Some a)

-- a mediator shows no table
abbrev pub shown : SpotState → Option ℕ
shown x = cond x.spot.mediator None x.newest

abbrev pub newest_of : List Version → List SpotState → Option ℕ → List Spot → Option ℕ
newest_of family places best [] = best
newest_of family places best (p ∷ ps) = newest_of family places (newer family best (shown (place_at places p))) ps

-- the greatest claim or boot number among these
abbrev pub greatest_of : List Version → List SpotState → ℕ → List Spot → ℕ
greatest_of family places best [] = best
greatest_of family places best (p ∷ ps) =
    greatest_of family places (max best (max (place_at places p).claim (boot_of family (place_at places p).newest))) ps

-- whether a place or mediator knows a greater mark than that of this table
abbrev pub is_above : List Version → Version → Option ℕ → Bool
is_above family t None = false
is_above family t (Some j) = mark_below t.mark (table_at family j).mark

abbrev pub knows_above : List Version → List SpotState → Version → Spot → Bool
knows_above family places t p = is_above family t (place_at places p).newest
