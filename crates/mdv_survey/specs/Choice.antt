-- Which table a boot takes: the one with the greatest mark, where the replicas that show tables are of one database, and enough of the places that it names were found.
use Rattle.std.specs.Prelude.{◌≡◌, ℕ, ◌+◌, ◌*◌, ◌/◌, ◌&&◌, ◌==◌, not, Bool, true, List, length, count_by, nat_lt, Contains, Option, Some, None, MatchOption, if◌then◌else◌, slice_get}
use Rattle.std.specs.List.{find, list_any}
use Rattle.mdv_name.specs.SliceIndex.{same_slice}
use Rattle.mdv_survey.specs.Below.{Identity, Lists, One, Two, Place, shows}
use Rattle.mdv_survey.specs.declared.choosing.Choice.{Choice}
use Rattle.mdv_survey.specs.declared.choosing.Choice.TheVariants.{Empty, TwoDatabases, NoQuorum, Newest as Chosen}
use Rattle.mdv_survey.specs.declared.replica.Newest.{Newest}
use Rattle.mdv_survey.specs.declared.replica.Replica.{Replica}
use Rattle.mdv_survey.specs.declared.replica.Survey.{Survey}

abbrev pub same_identity : Identity → Identity → Bool
same_identity a b = (a.fresh == b.fresh) && (a.number == b.number)

-- the same blocks of one slice
abbrev pub same_place : Place → Place → Bool
same_place p q = same_slice p.slice q.slice && ((p.start == q.start) && (p.blocks == q.blocks))

abbrev pub is_of : Identity → Replica → Bool
is_of identity r = same_identity r.head.master.identity identity

abbrev pub shows_table : Replica → Bool
shows_table r = shows r.head

-- it shows a table, of another identity
abbrev pub shows_other : Identity → Replica → Bool
shows_other identity r = shows r.head && not (is_of identity r)

-- where it lies, as its master says
abbrev pub place_of : Replica → Place
place_of r = record { slice = r.head.master.slice; start = r.head.master.start; blocks = r.head.master.blocks }

-- it is of that identity, and lies at the place, with just its length
abbrev pub is_there : Identity → Place → Replica → Bool
is_there identity place r = is_of identity r && same_place (place_of r) place

-- such a replica was found
abbrev pub is_found_at : List Replica → Identity → Place → Bool
is_found_at replicas identity place = list_any (is_there identity place) replicas

-- how many places of a list are readable, and how many more than half of them are at least
abbrev pub readable_of : List Replica → Identity → List Place → ℕ
readable_of replicas identity list = count_by (is_found_at replicas identity) list

abbrev pub needed_of : List Place → ℕ
needed_of list = length list / 2 + 1

abbrev pub is_read : List Replica → Identity → List Place → Bool
is_read replicas identity list = nat_lt (length list) (2 * readable_of replicas identity list)

-- the first of a table's lists of which not more than half was found: the list that was before the one that comes
abbrev pub failing : List Replica → Identity → Lists → Option (List Place)
failing replicas identity (One list) = if is_read replicas identity list then None else Some list
failing replicas identity (Two old new) = if is_read replicas identity old then (if is_read replicas identity new then None else Some new) else Some old

-- the first replica that shows a table, and the first one that shows a table of another identity
pub record AreTwo (replicas : List Replica) (a b : Identity) : Type 0 where
  pub one : Replica
  pub other : Replica
  pub first : find shows_table replicas ≡ Some one
  pub second : find (shows_other one.head.master.identity) replicas ≡ Some other
  pub a_is : a ≡ one.head.master.identity
  pub b_is : b ≡ other.head.master.identity

-- the replica shows the newest table, and all that show tables have its identity
pub record IsTheOne (replicas : List Replica) (newest : Newest) (replica : Replica) : Type 0 where
  pub one_of : slice_get replicas newest.replica ≡ Some replica
  pub one : (r : Replica) → Contains replicas r → shows r.head ≡ true → r.head.master.identity ≡ replica.head.master.identity

-- more than half of each list of the newest table was found
pub record IsEnough (replicas : List Replica) (newest : Newest) (number : ℕ) : Type 0 where
  pub replica : Replica
  pub the : IsTheOne replicas newest replica
  pub number_is : number ≡ newest.replica
  pub enough : failing replicas replica.head.master.identity newest.table.plan.lists ≡ None

-- of one it was not
pub record IsNotEnough (replicas : List Replica) (newest : Newest) (readable needed : ℕ) : Type 0 where
  pub replica : Replica
  pub the : IsTheOne replicas newest replica
  pub list : List Place
  pub fails : failing replicas replica.head.master.identity newest.table.plan.lists ≡ Some list
  pub readable_is : readable ≡ readable_of replicas replica.head.master.identity list
  pub needed_is : needed ≡ needed_of list

-- what is chosen where this is the newest table
abbrev pub IsChoiceAmong : List Replica → Newest → Choice → Type 0
IsChoiceAmong replicas newest Empty = ⊥
IsChoiceAmong replicas newest (TwoDatabases a b) = AreTwo replicas a b
IsChoiceAmong replicas newest (NoQuorum readable needed) = IsNotEnough replicas newest readable needed
IsChoiceAmong replicas newest (Chosen number) = IsEnough replicas newest number

-- and where there is none
abbrev pub IsChoice : Survey → Choice → Type 0
IsChoice survey choice = MatchOption survey.newest (choice ≡ Empty) (λ newest. IsChoiceAmong survey.replicas newest choice)

-- no two replicas that show tables have different identities
abbrev pub ShowOne : List Replica → Type 0
ShowOne replicas = (a b : Replica) → Contains replicas a → Contains replicas b → shows a.head ≡ true → shows b.head ≡ true → a.head.master.identity ≡ b.head.master.identity
