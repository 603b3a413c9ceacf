-- What every event keeps, in named facts over an arbitrary place.
use Rattle.std.proofs.Common.{◌≡◌, ◌<◌, ◌≤◌, ◌-◌, ℕ, Bool, true, false, sym, ◌∙◌, subst, List, [], ◌++◌, length, ◌⊎◌, inl, inr, Option, None, Some, refl, arith}
use Rattle.std.proofs.lemmas.Bool.{cases_lt}
use Rattle.std.specs.Prelude.{Contains, option_to_list}
use Rattle.mdv_quorum.specs.Below.{Spot, SpotLists, Version, SpotState, Since, Never, Listed, Dropped, is_in, is_named, last_list, is_read, is_written, table_at, place_at, raised, boot_of, mark_below}
use Rattle.mdv_votes.specs.Laws.{HasList}
use Rattle.mdv_votes.proofs.Quorums.{lists_at, IsCommon}
use Rattle.mdv_quorum.specs.declared.machine.Core.{Core}
use Rattle.mdv_quorum.specs.declared.machine.Stage.{Stage}
use Rattle.mdv_quorum.specs.declared.machine.Stage.TheVariants.{Reading, Creating, Claiming, Writing, Ready}
use Rattle.mdv_quorum.specs.May.{is_distinct}

abbrev pub newest : List SpotState → Spot → Option ℕ
newest places p = (place_at places p).newest

abbrev pub claim : List SpotState → Spot → ℕ
claim places p = (place_at places p).claim

abbrev pub holds : List SpotState → Spot → Bool
holds places p = (place_at places p).holds

abbrev pub since : List SpotState → Spot → Since
since places p = (place_at places p).since

abbrev pub floor : List SpotState → Spot → ℕ
floor places p = (place_at places p).floor

abbrev pub boot_at : List Version → ℕ → ℕ
boot_at family i = (table_at family i).mark.boot

abbrev pub plan_at : List Version → ℕ → List ℕ
plan_at family i = (table_at family i).plan

-- the table isn't below the firm one
abbrev pub IsLive : Option ℕ → ℕ → Type 0
IsLive firm i = (f : ℕ) → firm ≡ Some f → f ≤ i

abbrev pub IsPrefix : List ℕ → List ℕ → Type 0
IsPrefix xs ys = (rest : List ℕ) × (xs ++ rest ≡ ys)

abbrev pub HasAll : List ℕ → List ℕ → Type 0
HasAll told plan = (c : ℕ) → Contains told c → Contains plan c

-- shows a table above this one
abbrev pub Above : Option ℕ → ℕ → Type 0
Above None i = ⊥
Above (Some j) i = i < j

-- the firm table's last list has the place, or has lacked it only since a table above this one
abbrev pub Late : Since → ℕ → Type 0
Late Never i = ⊥
Late Listed i = Unit {0}
Late (Dropped m) i = i < m

-- its claim or the boot number of its newest table is at least this one
abbrev pub Knows : List Version → List SpotState → Spot → ℕ → Type 0
Knows family places p b = (b ≤ claim places p) ⊎ (b ≤ boot_of family (newest places p))

abbrev pub MadeFrom : List Version → ℕ → Version → Option ℕ → Type 0
MadeFrom family i t None = t.plan ≡ option_to_list t.change
MadeFrom family i t (Some k) = (k < i) × (t.plan ≡ plan_at family k ++ option_to_list t.change)

-- the lists name places, the mediators are seats, and a local database has none
pub record ListsOk (set : Bool) (lists : SpotLists) : Type 0 where
  pub places : (list : List Spot) (p : Spot) → HasList lists list → is_in list p ≡ true → p.mediator ≡ false
  pub seats : (p : Spot) → is_in lists.mediators p ≡ true → p.mediator ≡ true
  pub alone : set ≡ false → lists.mediators ≡ []
  pub distinct : is_distinct lists.mediators ≡ true

pub record TablesOk (set : Bool) (family : List Version) : Type 0 where
  pub marks : (i j : ℕ) → i < j → j < length family → mark_below (table_at family i).mark (table_at family j).mark ≡ true
  pub made : (i : ℕ) → i < length family → MadeFrom family i (table_at family i) (table_at family i).parent
  pub lists : (i : ℕ) → i < length family → ListsOk set (lists_at family i)

abbrev pub AllCommon : List Version → Option ℕ → Type 0
AllCommon family firm =
    (i j : ℕ) → i < length family → j < length family → IsLive firm i → IsLive firm j → IsCommon family firm (lists_at family i) (lists_at family j)

pub record PlansOk (family : List Version) (firm : Option ℕ) (log told : List ℕ) : Type 0 where
  pub issued : (i : ℕ) → i < length family → IsLive firm i → IsPrefix (plan_at family i) log
  pub holds_told : (i : ℕ) → i < length family → IsLive firm i → HasAll told (plan_at family i)
  pub descends : (f i : ℕ) → firm ≡ Some f → f ≤ i → i < length family → IsPrefix (plan_at family f) (plan_at family i)
  pub nothing : firm ≡ None → told ≡ []

-- shows a table above this one, or is a place that shows none and was formatted again since one above dropped it
abbrev pub Outdoes : Spot → SpotState → ℕ → Type 0
Outdoes p x i = Above x.newest i ⊎ ((p.mediator ≡ false) × (x.newest ≡ None) × (i < x.floor))

pub outdoes_as : (p : Spot) (x y : SpotState) (i : ℕ) → y.newest ≡ x.newest → y.floor ≡ x.floor → Outdoes p x i → Outdoes p y i
outdoes_as p x y i newest floor h =
    elim h [
      | inl above ↦ inl (subst (λ (o : Option ℕ). Above o i) (sym newest) above)
      | inr stale ↦ inr (stale.0, newest ∙ stale.1, subst (λ (n : ℕ). i < n) (sym floor) stale.2)
    ]

-- the firm table is above this one, or is it
abbrev pub Reaches : Option ℕ → ℕ → Type 0
Reaches firm i = (f : ℕ) × (firm ≡ Some f) × (i ≤ f)

pub raised_low : (firm : Option ℕ) (n : ℕ) (s : Since) → (0 < n → Reaches firm n) → ((m : ℕ) → s ≡ Dropped m → Reaches firm m) → 0 < raised n s → Reaches firm (raised n s)
raised_low firm n Never low dropped some = low some
raised_low firm n Listed low dropped some = low some
raised_low firm n (Dropped m) low dropped some =
    elim (cases_lt n m) [
      | inl less ↦ let d = dropped m refl in (d.0, d.1, omega (arith, less, d.2))
      | inr more ↦ elim (cases_lt 0 n) [
        | inl up ↦ let l = low up in (l.0, l.1, omega (arith, more, l.2))
        | inr none ↦ absurd (omega (arith, more, none, some))
      ]
    ]

-- of what was read this place, which the table names, outdoes it, or this mediator, which didn't say so, knows a table above
pub record IsBeater (family : List Version) (places : List SpotState) (i : ℕ) (read knows : Spot → Bool) : Type 0 where
  pub place : Spot
  pub was_read : read place ≡ true
  pub named : is_named (lists_at family i) place ≡ true
  pub late : ((place.mediator ≡ false) × Late (since places place) i) ⊎ ((place.mediator ≡ true) × (knows place ≡ false))
  pub above : Outdoes place (place_at places place) i

-- each read quorum of a table below the firm one is beaten
abbrev pub Beats : List Version → List SpotState → ℕ → Type 0
Beats family places i = (read knows : Spot → Bool) → is_read (table_at family i) read knows ≡ true → IsBeater family places i read knows

abbrev pub KnownIn : List Version → List SpotState → (Spot → Bool) → ℕ → Type 0
KnownIn family places read b = (p : Spot) × (read p ≡ true) × Knows family places p b

abbrev pub NumbersOk : List Version → Option ℕ → List SpotState → Type 0
NumbersOk family firm places =
    (i u : ℕ) (read knows : Spot → Bool) → i < length family → u < length family → IsLive firm i → is_read (table_at family i) read knows ≡ true
    → (boot_at family u ≤ boot_at family i) ⊎ KnownIn family places read (boot_at family u)

-- these places hold the firm table or a greater one
pub record IsKept (family : List Version) (places : List SpotState) (f : ℕ) (p : Spot) : Type 0 where
  pub held : holds places p ≡ true
  pub table : ℕ
  pub shows : newest places p ≡ Some table
  pub above : f ≤ table
  pub named : is_named (lists_at family f) p ≡ true

abbrev pub IsCovered : List Version → List SpotState → ℕ → Type 0
IsCovered family places f =
    (took : Spot → Bool) × (is_written (table_at family f) took ≡ true) × ((p : Spot) → took p ≡ true → IsKept family places f p)

pub record IsGone (family : List Version) (firm : Option ℕ) (places : List SpotState) (p : Spot) : Type 0 where
  pub some : 0 < length family
  pub is_firm : firm ≡ Some (length family - 1)
  pub place : p.mediator ≡ false
  pub wiped : holds places p ≡ false
  pub needed : (read knows : Spot → Bool) → is_read (table_at family (length family - 1)) read knows ≡ true → read p ≡ true

pub record PlacesOk (family : List Version) (firm : Option ℕ) (places : List SpotState) (deleted : Option Spot) : Type 0 where
  pub firm_in : (f : ℕ) → firm ≡ Some f → f < length family
  pub shows : (p : Spot) (j : ℕ) → newest places p ≡ Some j → j < length family
  pub beaten : (f i : ℕ) → firm ≡ Some f → i < f → Beats family places i
  pub numbers : NumbersOk family firm places
  pub listed : (f : ℕ) (p : Spot) → firm ≡ Some f → is_in (last_list (lists_at family f)) p ≡ true → holds places p ≡ true → since places p ≡ Listed
  pub listed_in : (p : Spot) → since places p ≡ Listed → (f : ℕ) × (firm ≡ Some f) × (is_in (last_list (lists_at family f)) p ≡ true)
  pub dropped : (p : Spot) (m : ℕ) → since places p ≡ Dropped m → Reaches firm m
  pub low : (p : Spot) → 0 < floor places p → Reaches firm (floor places p)
  pub covered : (f : ℕ) → firm ≡ Some f → deleted ≡ None → IsCovered family places f
  pub gone : (p : Spot) → deleted ≡ Some p → IsGone family firm places p
  pub unused : length places ≡ 0 → length family ≡ 0

-- where half of a list suffices to write a table without mediators, no live table has any
abbrev pub IsAlone : List Version → Option ℕ → Version → Type 0
IsAlone family firm t =
    t.by_majority ≡ false → t.lists.mediators ≡ [] → (i : ℕ) → i < length family → IsLive firm i → (lists_at family i).mediators ≡ []

-- the table in hand fits behind the family
pub record Fits (set : Bool) (family : List Version) (firm : Option ℕ) (log told : List ℕ) (next : Version) : Type 0 where
  pub mark : (i : ℕ) → i < length family → mark_below (table_at family i).mark next.mark ≡ true
  pub made : MadeFrom family (length family) next next.parent
  pub lists : ListsOk set next.lists
  pub itself : IsCommon family firm next.lists next.lists
  pub before : (i : ℕ) → i < length family → IsLive firm i → IsCommon family firm (lists_at family i) next.lists
  pub behind : (i : ℕ) → i < length family → IsLive firm i → IsCommon family firm next.lists (lists_at family i)
  pub issued : IsPrefix next.plan log
  pub holds_told : HasAll told next.plan
  pub descends : (f : ℕ) → firm ≡ Some f → IsPrefix (plan_at family f) next.plan
  pub alone : IsAlone family firm next

pub record ReadingOk (deleted : Option Spot) (read : List Spot) : Type 0 where
  pub gone : (p : Spot) → deleted ≡ Some p → is_in read p ≡ true → ⊥

pub record CreatingOk (set : Bool) (family : List Version) (firm : Option ℕ) (deleted : Option Spot) (log told : List ℕ) (next : Version) : Type 0 where
  pub first : length family ≡ 0
  pub there : deleted ≡ None
  pub fits : Fits set family firm log told next

-- a boot has chosen this table
pub record IsChosen (family : List Version) (log told : List ℕ) (i : ℕ) (t : Version) : Type 0 where
  pub plan : t.plan ≡ plan_at family i
  pub same : t.change ≡ None
  pub issued : IsPrefix (plan_at family i) log
  pub holds_told : HasAll told (plan_at family i)

pub record ClaimingOk (set : Bool) (family : List Version) (firm : Option ℕ) (places : List SpotState) (deleted : Option Spot) (log told : List ℕ) (i : ℕ) (next : Version) (claimed : List Spot) : Type 0 where
  pub there : deleted ≡ None
  pub known : i < length family
  pub live : IsLive firm i
  pub chosen : IsChosen family log told i next
  pub fits : Fits set family firm log told next
  pub higher : (u : ℕ) → u < length family → boot_at family u < next.mark.boot
  pub claims : (p : Spot) → is_in claimed p ≡ true → next.mark.boot ≤ claim places p

pub record HasTaken (family : List Version) (places : List SpotState) (p : Spot) : Type 0 where
  pub shows : newest places p ≡ Some (length family - 1)
  pub held : holds places p ≡ true
  pub named : is_named (lists_at family (length family - 1)) p ≡ true

-- a boot's table is the last one, and this is the one that it chose before
pub record IsBoot (family : List Version) (firm : Option ℕ) (log told : List ℕ) (i : ℕ) : Type 0 where
  pub known : i < length family - 1
  pub live : (f : ℕ) → firm ≡ Some f → f < length family - 1 → f ≤ i
  pub chosen : IsChosen family log told i (table_at family (length family - 1))
  pub higher : (u : ℕ) → u < length family - 1 → boot_at family u < boot_at family (length family - 1)

abbrev pub BootOk : List Version → Option ℕ → List ℕ → List ℕ → Option ℕ → Type 0
BootOk family firm log told None = Unit {0}
BootOk family firm log told (Some i) = IsBoot family firm log told i

pub record TakingOk (family : List Version) (firm : Option ℕ) (places : List SpotState) (deleted : Option Spot) (log told : List ℕ) (boot : Option ℕ) (took : List Spot) : Type 0 where
  pub there : deleted ≡ None
  pub some : 0 < length family
  pub taken : (p : Spot) → is_in took p ≡ true → HasTaken family places p
  pub made : BootOk family firm log told boot
  pub alone : IsAlone family firm (table_at family (length family - 1))

pub record WritingOk (family : List Version) (firm : Option ℕ) (places : List SpotState) (deleted : Option Spot) (log told : List ℕ) (boot : Option ℕ) (took : List Spot) : Type 0 where
  pub taking : TakingOk family firm places deleted log told boot took
  pub settles : is_written (table_at family (length family - 1)) (is_in took) ≡ true → firm ≡ Some (length family - 1)

abbrev pub NextOk : Bool → List Version → Option ℕ → List ℕ → List ℕ → Option Version → Type 0
NextOk set family firm log told None = Unit {0}
NextOk set family firm log told (Some next) = Fits set family firm log told next × (next.mark.boot ≡ boot_at family (length family - 1))

pub record ReadyOk (set : Bool) (family : List Version) (firm : Option ℕ) (deleted : Option Spot) (log told : List ℕ) (next : Option Version) : Type 0 where
  pub there : deleted ≡ None
  pub some : 0 < length family
  pub settled : firm ≡ Some (length family - 1)
  pub in_hand : NextOk set family firm log told next

abbrev pub StageOk : Core → Stage → Type 0
StageOk w (Reading read) = ReadingOk w.deleted read
StageOk w (Creating next) = CreatingOk w.set w.family w.firm w.deleted w.log w.told next
StageOk w (Claiming adopted next claimed) = ClaimingOk w.set w.family w.firm w.places w.deleted w.log w.told adopted next claimed
StageOk w (Writing boot took) = WritingOk w.family w.firm w.places w.deleted w.log w.told boot took
StageOk w (Ready next) = ReadyOk w.set w.family w.firm w.deleted w.log w.told next

-- all but the stage
pub record Base (w : Core) : Type 0 where
  pub tables : TablesOk w.set w.family
  pub common : AllCommon w.family w.firm
  pub plans : PlansOk w.family w.firm w.log w.told
  pub places : PlacesOk w.family w.firm w.places w.deleted

pub record Inv (w : Core) : Type 0 where
  pub base : Base w
  pub stage : StageOk w w.stage
