-- Two looks at images in which the same is found have one survey.
use Rattle.std.proofs.Common.{◌≡◌, ◌⊎◌, inl, inr, suc, Bool, true, false, List, [], ◌∷◌, ◌++◌, Option, None, Some, All, Contains, slice_get, not, ◌&&◌, refl, sym, ◌∙◌, ap, subst, arith}
use Rattle.std.proofs.lemmas.Bool.{and_from, cases_lt}
use Rattle.std.proofs.lemmas.List.Elements.{All-contains, Contains-append_right}
use Rattle.mdv_base.specs.DriveSet.{Drives, has_drive}
use Rattle.mdv_base.specs.declared.drive.DriveNo.{DriveNo}
use Rattle.mdv_base.specs.declared.mark.Mark.{Mark}
use Rattle.mdv_base.specs.Mark.{IsBelow}
use Rattle.mdv_name.specs.declared.geometry.Geometry.{Geometry}
use Rattle.mdv_name.specs.declared.slice_lines.SliceLine.{SliceLine}
use Rattle.mdv_store.proofs.Adoptions.{got_contains}
use Rattle.mdv_store.proofs.Sitting.{contains_behind, contains_first, first_or_behind}
use Rattle.mdv_store.specs.Records.{Spells}
use Rattle.mdv_replica.specs.Form.{gate_of, shows}
use Rattle.mdv_replica.specs.declared.forms.Gate.TheVariants.{Open}
use Rattle.mdv_replica.specs.declared.replica.Slot.{Slot}
use Rattle.mdv_replica.specs.declared.replica.Slot.TheVariants.{First, Second}
use Rattle.mdv_shown.specs.Site.{IsSite}
use Rattle.mdv_shown.specs.declared.site.Site.{Site}
use Rattle.mdv_shown.specs.Shown.{SlotShows}
use Rattle.mdv_survey.specs.Newest.{HasTable, IsGreatest, IsMarked}
use Rattle.mdv_survey.specs.Replica.{AreOrdered, ComesBefore, Contents, IsFoundIn, Precedes, at_of}
use Rattle.mdv_survey.specs.Survey.{IsSurvey, IsSurveyOf}
use Rattle.mdv_survey.specs.declared.replica.Newest.{Newest}
use Rattle.mdv_survey.specs.declared.replica.Replica.{Replica}
use Rattle.mdv_survey.specs.declared.replica.Survey.{Survey}
use Rattle.mdv_survey.proofs.Newests.{closed_gates}
use Rattle.mdv_run_law.specs.Run.{AreOnce}
use Rattle.mdv_run_law.proofs.Moving.{IsAlike, IsTop, alike_back, found_of, here_of, one_text}

-- the one comes before the other in a list
abbrev Before : List SliceLine → SliceLine → SliceLine → Type 0
Before [] a b = ⊥
Before (l ∷ ls) a b = ((l ≡ a) × Contains ls b) ⊎ Before ls a b

before_of : (front rest : List SliceLine) (a b : SliceLine) → Contains front a → Contains rest b → Before (front ++ rest) a b
before_of [] rest a b has later = absurd (omega (arith, has.1))
before_of (l ∷ front) rest a b has later = elim (first_or_behind l a front has) [
  | inl here ↦ inl (here, Contains-append_right front rest b later)
  | inr there ↦ inr (before_of front rest a b there later)
]

before_has : (ls : List SliceLine) (a b : SliceLine) → Before ls a b → Contains ls a × Contains ls b
before_has [] a b is = absurd is
before_has (l ∷ ls) a b (inl is) = (subst (Contains (l ∷ ls)) is.0 (contains_first l ls), contains_behind l b ls is.1)
before_has (l ∷ ls) a b (inr is) = (let rest = before_has ls a b is in (contains_behind l a ls rest.0, contains_behind l b ls rest.1))

not_again : (l : SliceLine) (ls : List SliceLine) → AreOnce (l ∷ ls) → Contains ls l → ⊥
not_again l ls once has = once 0 (suc has.0) l (omega arith) (omega (arith, has.1)) (sym has.2)

once_behind : (l : SliceLine) (ls : List SliceLine) → AreOnce (l ∷ ls) → AreOnce ls
once_behind l ls once i j d less within = once (suc i) (suc j) d (omega (arith, less)) (omega (arith, within))

never_both_ways : (ls : List SliceLine) (a b : SliceLine) → AreOnce ls → Before ls a b → Before ls b a → ⊥
never_both_ways [] a b once is also = is
never_both_ways (l ∷ ls) a b once (inl is) (inl also) = not_again l ls once (subst (Contains ls) (sym also.0) is.1)
never_both_ways (l ∷ ls) a b once (inl is) (inr also) = not_again l ls once (subst (Contains ls) (sym is.0) (before_has ls b a also).1)
never_both_ways (l ∷ ls) a b once (inr is) (inl also) = not_again l ls once (subst (Contains ls) (sym also.0) (before_has ls a b is).1)
never_both_ways (l ∷ ls) a b once (inr is) (inr also) = never_both_ways ls a b (once_behind l ls once) is also

module _ (lines : List SliceLine) (once : AreOnce lines) where
  before_is : (a b : SliceLine) → ComesBefore lines a b → Before lines a b
  before_is a b is = subst (λ (ls : List SliceLine). Before ls a b) (sym is.all) (before_of is.before is.behind a b is.earlier is.later)

  never_after : (r s : Replica) → Precedes lines r s → Precedes lines s r → ⊥
  never_after r s (inl is) (inl also) = never_both_ways lines r.line s.line once (before_is r.line s.line is) (before_is s.line r.line also)
  never_after r s (inl is) (inr also) = (let own = subst (λ (l : SliceLine). Before lines r.line l) also.0 (before_is r.line s.line is) in never_both_ways lines r.line r.line once own own)
  never_after r s (inr is) (inl also) = (let own = subst (λ (l : SliceLine). Before lines s.line l) is.0 (before_is s.line r.line also) in never_both_ways lines s.line s.line once own own)
  never_after r s (inr is) (inr also) = omega (arith, is.1, also.1)

  -- lists in this order with the same items are one
  pub one_list : (rs ss : List Replica) → AreOrdered lines rs → AreOrdered lines ss → ((r : Replica) → Contains rs r → Contains ss r) → ((r : Replica) → Contains ss r → Contains rs r) → rs ≡ ss
  one_list [] [] ordered also there back = refl
  one_list [] (s ∷ ss) ordered also there back = (let has = back s (contains_first s ss) in absurd (omega (arith, has.1)))
  one_list (r ∷ rs) [] ordered also there back = (let has = there r (contains_first r rs) in absurd (omega (arith, has.1)))
  one_list (r ∷ rs) (s ∷ ss) ordered also there back = (let same = first_same in let tails = one_list rs ss ordered.1 also.1 (forth same) (back_too same) in λ i. same i ∷ tails i) where
    behind : (x y : Replica) (ys : List Replica) → All (Precedes lines x) ys → Contains ys y → Precedes lines x y
    behind x y ys all has = All-contains (Precedes lines x) ys y all has

    first_same : r ≡ s
    first_same = elim (first_or_behind s r ss (there r (contains_first r rs))) [
      | inl same ↦ sym same
      | inr later ↦ elim (first_or_behind r s rs (back s (contains_first s ss))) [
        | inl same ↦ same
        | inr late ↦ absurd (never_after s r (behind s r ss also.0 later) (behind r s rs ordered.0 late))
      ]
    ]

    forth : r ≡ s → (x : Replica) → Contains rs x → Contains ss x
    forth same x has = elim (first_or_behind s x ss (there x (contains_behind r x rs has))) [
      | inl here ↦ (let own = subst (λ (y : Replica). Precedes lines r y) (sym (same ∙ here)) (behind r x rs ordered.0 has) in absurd (never_after r r own own))
      | inr later ↦ later
    ]

    back_too : r ≡ s → (x : Replica) → Contains ss x → Contains rs x
    back_too same x has = elim (first_or_behind r x rs (back x (contains_behind s x ss has))) [
      | inl here ↦ (let own = subst (λ (y : Replica). Precedes lines s y) (sym (sym same ∙ here)) (behind s x ss also.0 has) in absurd (never_after s s own own))
      | inr later ↦ later
    ]

-- The newest table of a list of replicas: one replica, slot and mark.
neither_below : (a b : Mark) → (IsBelow a b → ⊥) → (IsBelow b a → ⊥) → a ≡ b
neither_below a b one other =
    let boots : a.boot ≡ b.boot = elim (cases_lt a.boot b.boot) [
      | inl less ↦ absurd (one (inl less))
      | inr most ↦ elim (cases_lt b.boot a.boot) [ inl less ↦ absurd (other (inl less)) | inr both ↦ omega (arith, most, both) ]
    ] in
    let counts : a.count ≡ b.count = elim (cases_lt a.count b.count) [
      | inl less ↦ absurd (one (inr (boots, less)))
      | inr most ↦ elim (cases_lt b.count a.count) [ inl less ↦ absurd (other (inr (sym boots, less))) | inr both ↦ omega (arith, most, both) ]
    ] in
    λ i. record { boot = boots i; count = counts i }

module _ (rs : List Replica) (n m : Newest) (one : IsGreatest rs n) (other : IsGreatest rs m) where
  same_mark : n.mark ≡ m.mark
  same_mark = neither_below n.mark m.mark
      (λ below. one.greatest other.replica (got_contains rs m.replica other.replica other.one_of) m.slot m.mark other.bytes other.gate below)
      (λ below. other.greatest one.replica (got_contains rs n.replica one.replica one.one_of) n.slot n.mark one.bytes one.gate below)

  same_place : n.replica ≡ m.replica
  same_place = elim (cases_lt n.replica m.replica) [
    | inl less ↦ absurd (other.first n.replica one.replica less one.one_of n.slot one.bytes (subst (λ (x : Mark). gate_of one.replica.head n.slot ≡ Open x one.bytes) same_mark one.gate))
    | inr most ↦ elim (cases_lt m.replica n.replica) [
      | inl less ↦ absurd (one.first m.replica other.replica less other.one_of m.slot other.bytes (subst (λ (x : Mark). gate_of other.replica.head m.slot ≡ Open x other.bytes) (sym same_mark) other.gate))
      | inr both ↦ omega (arith, most, both)
    ]
  ]

  some_same : {A : Type 0} (a b : A) → Some a ≡ Some b → a ≡ b
  some_same a b is = cc (is)

  same_replica : one.replica ≡ other.replica
  same_replica = some_same one.replica other.replica (sym one.one_of ∙ ap (slice_get rs) same_place ∙ other.one_of)

  same_slot : n.slot ≡ m.slot
  same_slot = by n.slot m.slot refl refl where
    its : gate_of one.replica.head m.slot ≡ Open n.mark other.bytes
    its = ap (λ (r : Replica). gate_of r.head m.slot) same_replica ∙ other.gate ∙ ap (λ (x : Mark). Open x other.bytes) (sym same_mark)

    own : gate_of other.replica.head n.slot ≡ Open m.mark one.bytes
    own = ap (λ (r : Replica). gate_of r.head n.slot) (sym same_replica) ∙ one.gate ∙ ap (λ (x : Mark). Open x one.bytes) same_mark

    by : (a b : Slot) → n.slot ≡ a → m.slot ≡ b → n.slot ≡ m.slot
    by First First a b = a ∙ sym b
    by Second Second a b = a ∙ sym b
    by First Second a b = absurd (one.tie a other.bytes (subst (λ (s : Slot). gate_of one.replica.head s ≡ Open n.mark other.bytes) b its))
    by Second First a b = absurd (other.tie b one.bytes (subst (λ (s : Slot). gate_of other.replica.head s ≡ Open m.mark one.bytes) a own))

-- a list of which some replica shows a table has a newest one
never_dark : (rs : List Replica) (n : Newest) → IsGreatest rs n → ((r : Replica) → Contains rs r → shows r.head ≡ false) → ⊥
never_dark rs n is dark = closed_gates is.replica.head n.slot n.mark is.bytes (dark is.replica (got_contains rs n.replica is.replica is.one_of)) is.gate

-- The look of a boot of which no read failed.
module _ (g : Geometry) (site : Site) (ok : IsSite site) (once : AreOnce site.lines) (brought : (line : SliceLine) → Contains site.lines line → Contains site.drives line.at.drive) where
  -- what all drives hold was surveyed
  pub record IsAllOf (content : Contents) (survey : Survey) : Type 0 where
    pub calm : Drives
    pub each : (drive : DriveNo) → Contains site.drives drive → has_drive calm drive ≡ true
    pub survey_is : IsSurvey site calm survey
    pub of : IsSurveyOf g site calm content survey
    pub none : (drive : DriveNo) → has_drive calm drive ≡ true → has_drive survey.failed drive ≡ false

  module _ (c d : Contents) (alike : IsAlike g site ok c d) (s t : Survey) (one : IsAllOf c s) (other : IsAllOf d t) where
    answers : (up failed : Bool) → up ≡ true → failed ≡ false → up && not failed ≡ true
    answers up failed is never = and_from up (not failed) is (ap not never)

    forth : (r : Replica) → Contains s.replicas r → Contains t.replicas r
    forth r has =
        let found = one.of.each r has in
        let here = alike.there r (here_of (Spells g) (one_text g) site ok c r found) in
        let up = other.each r.line.at.drive (brought r.line found.one_of) in
        other.of.all r (found_of (Spells g) (one_text g) site ok d r here found.of_key) (answers (has_drive other.calm r.line.at.drive) (has_drive t.failed r.line.at.drive) up (other.none r.line.at.drive up))

  newest_one : (c d : Contents) → IsAlike g site ok c d → (rs : List Replica) → ((r : Replica) → Contains rs r → IsFoundIn g site c r) → (a b : Option Newest) → IsMarked rs a → IsMarked rs b → HasTable g c rs a → HasTable g d rs b → a ≡ b
  newest_one c d alike rs found None None one other here also = refl
  newest_one c d alike rs found None (Some m) one other here also = absurd (never_dark rs m other one)
  newest_one c d alike rs found (Some n) None one other here also = absurd (never_dark rs n one other)
  newest_one c d alike rs found (Some n) (Some m) one other here also = λ i. Some (record { replica = same_place rs n m one other i; slot = same_slot rs n m one other i; mark = same_mark rs n m one other i; table = table i }) where
    own : one.replica ≡ here.replica
    own = some_same rs n m one other one.replica here.replica (sym one.one_of ∙ here.one_of)

    theirs : here.replica ≡ also.replica
    theirs = some_same rs n m one other here.replica also.replica (sym here.one_of ∙ ap (slice_get rs) (same_place rs n m one other) ∙ also.one_of)

    top : IsTop here.replica.head n.slot n.mark
    top = subst (λ (r : Replica). IsTop r.head n.slot n.mark) own (record { bytes = one.bytes; gate = one.gate; above = one.greatest one.replica (got_contains rs n.replica one.replica one.one_of) })

    shown : SlotShows (Spells g) (at_of here.replica) (d here.replica.line.at.drive.0) here.replica.head n.slot n.mark m.table
    shown =
        subst (λ (r : Replica). SlotShows (Spells g) (at_of r) (d r.line.at.drive.0) r.head n.slot n.mark m.table) (sym theirs)
        (subst (λ (s : Slot). SlotShows (Spells g) (at_of also.replica) (d also.replica.line.at.drive.0) also.replica.head s n.mark m.table) (sym (same_slot rs n m one other))
        (subst (λ (x : Mark). SlotShows (Spells g) (at_of also.replica) (d also.replica.line.at.drive.0) also.replica.head m.slot x m.table) (sym (same_mark rs n m one other)) also.shows))

    table : n.table ≡ m.table
    table = alike.tables here.replica n.slot n.mark n.table m.table (here_of (Spells g) (one_text g) site ok c here.replica (found here.replica (got_contains rs n.replica here.replica here.one_of))) top here.shows shown

  -- The same replicas, and the same newest table.
  pub record IsSameSurvey (s t : Survey) : Type 0 where
    pub replicas : s.replicas ≡ t.replicas
    pub newest : s.newest ≡ t.newest

  pub one_survey : (c d : Contents) → IsAlike g site ok c d → (s t : Survey) → IsAllOf c s → IsAllOf d t → IsSameSurvey s t
  one_survey c d alike s t one other =
      let lists : s.replicas ≡ t.replicas =
      one_list site.lines once s.replicas t.replicas one.survey_is.ordered other.survey_is.ordered (forth c d alike s t one other) (forth d c (alike_back (Spells g) (one_text g) site ok c d alike) t s other one) in
      record {
        replicas = lists;
        newest = newest_one c d alike s.replicas one.of.each s.newest t.newest one.survey_is.marked
            (subst (λ (rs : List Replica). IsMarked rs t.newest) (sym lists) other.survey_is.marked) one.of.table (subst (λ (rs : List Replica). HasTable g d rs t.newest) (sym lists) other.of.table);
      }
