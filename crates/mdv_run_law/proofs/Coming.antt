-- The events that come of a script's lines, and what its replies tell.
use Rattle.std.proofs.Common.{◌≡◌, ◌≢◌, ◌⊎◌, inl, inr, ℕ, Bool, Option, None, Some, true, false, cond, List, [], ◌∷◌, ◌++◌, refl, sym, ◌∙◌, ap, subst, append_assoc, Contains, arith}
use Rattle.std.proofs.lemmas.List.{append-nil}
use Rattle.std.proofs.lemmas.Slice.Eq.{bytes_eq-Decides}
use Rattle.std.specs.Fmt.{digits}
use Rattle.std.specs.Str.{bytes_eq}
use Rattle.std.proofs.lemmas.List.Elements.{Contains-append_left, Contains-append_right}
use Rattle.std.specs.Bool.{MatchBool}
use Rattle.mdv_store_law.specs.Changes.{FirstPlace, OfPlan}
use Rattle.mdv_store_law.specs.Changes as changes
use Rattle.mdv_engine_law.specs.Line.{ToDrop, tellable}
use Rattle.mdv_engine_law.specs.Replies.{AcksOne}
use Rattle.mdv_run_law.specs.Below.{Change, Deleted, Key, SliceName, Script, at_end, spent, too_long, line, Deed, Created, Changed, Saw, Event, Host, Ask, Nothing, ToBoot, ToDo, ToMake, ToSee, asked_by_line, AcksBy, Wrote, ok_line, told_by, ToMakeListed}
use Rattle.mdv_volumes.proofs.Lists.{contains_first, first_or_behind}
use Rattle.mdv_words.proofs.Lines.{one_line}
use Rattle.mdv_volumes.specs.Happening.{deed_of, tells}
use Rattle.mdv_store_law.proofs.Machine.{all_more}
use Rattle.mdv_run_law.specs.Standing.{Asks, AsksBy, AreIdle, AreOfLine, ComeOf, Context, IsSettled, InWork, IsWanting, NothingLeft, IsTold, behind}

-- a line asks one thing
pub one_asked : (host : Host) (text : List ℕ) (a b : Ask) → Asks host text a → Asks host text b → a ≡ b
one_asked host text a b (inl one) (inl other) = one.1 ∙ sym other.1
one_asked host text a b (inl one) (inr other) = absurd (one.0 other.0 other.1)
one_asked host text a b (inr one) (inl other) = absurd (other.0 one.0 one.1)
one_asked host text a b (inr one) (inr other) = one.2 ∙ ap (asked_by_line host) (one_line text one.0 other.0 one.1 other.1) ∙ sym other.2

-- any deed but values that were seen
abbrev pub IsDone : Deed → Type 0
IsDone (Created key) = Unit {0}
IsDone (Changed key change) = Unit {0}
IsDone (Deleted key) = Unit {0}
IsDone (Wrote key volume at blocks) = Unit {0}
IsDone (Saw key volume at blocks) = ⊥

-- the same deed, or both are among those of which `ok` may acknowledge one to a line
abbrev pub IsLike : Deed → Deed → Type 0
IsLike deed other = (deed ≡ other) ⊎ ((ask : Ask) × Contains (tellable ask) deed × Contains (tellable ask) other)

-- one of these is like the deed
abbrev pub HasLike : List Deed → Deed → Type 0
HasLike deeds deed = (other : Deed) × Contains deeds other × IsLike deed other

only_one : (one deed : Deed) (a : List Deed) → a ≡ one ∷ [] → Contains a deed → one ≡ deed
only_one one deed a is has = elim (first_or_behind one deed [] (subst (λ (l : List Deed). Contains l deed) is has)) [ inl same ↦ same | inr none ↦ absurd (omega (arith, none.1)) ]

never_none : (deed : Deed) (a : List Deed) → a ≡ [] → Contains a deed → ⊥
never_none deed a is has = absurd (let none : Contains [] deed = subst (λ (l : List Deed). Contains l deed) is has in omega (arith, none.1))

same_like : (a b : List Deed) (deed : Deed) → a ≡ b → Contains a deed → HasLike b deed
same_like a b deed is has = (deed, subst (λ (l : List Deed). Contains l deed) is has, inl refl)

either_like : (ask : Ask) (ok : Bool) (a b : List Deed) (deed : Deed) → MatchBool ok ((one : Deed) × Contains (tellable ask) one × (a ≡ one ∷ [])) (a ≡ []) → MatchBool ok ((one : Deed) × Contains (tellable ask) one × (b ≡ one ∷ [])) (b ≡ []) → Contains a deed → HasLike b deed
either_like ask true a b deed one two has =
    (two.0, subst (λ (l : List Deed). Contains l two.0) (sym two.2) (contains_first two.0 []), inr (ask, subst (Contains (tellable ask)) (only_one one.0 deed a one.2 has) one.1, two.1))
either_like ask false a b deed one two has = absurd (never_none deed a one has)

-- what one reply acknowledges to an ask is one deed, or like it
pub acked_once : (ask : Ask) (reply : List ℕ) (a b : List Deed) (deed : Deed) → IsDone deed → AcksBy ask reply a → AcksBy ask reply b → Contains a deed → HasLike b deed
acked_once Nothing reply a b deed done one other has = same_like a b deed (one ∙ sym other) has
acked_once ToBoot reply a b deed done one other has = same_like a b deed (one ∙ sym other) has
acked_once (ToMake key lines count blocks) reply a b deed done one other has = either_like (ToMake key lines count blocks) (bytes_eq reply ok_line) a b deed one other has
acked_once (ToMakeListed key number) reply a b deed done one other has = either_like (ToMakeListed key number) (bytes_eq reply ok_line) a b deed one other has
acked_once (ToDrop key slices force) reply a b deed done one other has = either_like (ToDrop key slices force) (bytes_eq reply ok_line) a b deed one other has
acked_once (ToDo asked) reply a b deed done one other has = same_like a b deed (one ∙ sym other) has
acked_once (ToSee key volume at count) reply a b deed done (inl one) other has = absurd (never_none deed a one.1 has)
acked_once (ToSee key volume at count) reply a b deed done (inr one) other has = absurd (subst IsDone (sym (only_one (Saw key volume at one.blocks) deed a one.seen has)) done)

-- the reply that memory was wanting acknowledges none
pub no_ok : (reply : List ℕ) → IsWanting reply → bytes_eq reply ok_line ≡ true → ⊥
unfolding digits
no_ok reply wanting ok = absurd (cc (subst IsWanting ((bytes_eq-Decides reply ok_line).0 ok) wanting))

wanting_deed : (asked : Deed) (reply : List ℕ) (done : List Deed) (deed : Deed) → IsWanting reply → done ≡ cond (bytes_eq reply ok_line) (asked ∷ []) [] → Contains done deed → ⊥
wanting_deed asked reply done deed wanting acks has = by (bytes_eq reply ok_line) refl acks where
  by : (ok : Bool) → bytes_eq reply ok_line ≡ ok → done ≡ cond ok (asked ∷ []) [] → ⊥
  by true same acks = no_ok reply wanting same
  by false same acks = never_none deed done acks has

wanting_one : (deeds : List Deed) (reply : List ℕ) (done : List Deed) (deed : Deed) → IsWanting reply → AcksOne deeds reply done → Contains done deed → ⊥
wanting_one deeds reply done deed wanting acks has = by (bytes_eq reply ok_line) refl acks where
  by : (ok : Bool) → bytes_eq reply ok_line ≡ ok → MatchBool ok ((one : Deed) × Contains deeds one × (done ≡ one ∷ [])) (done ≡ []) → ⊥
  by true same acks = no_ok reply wanting same
  by false same acks = never_none deed done acks has

wanting_acks : (ask : Ask) (reply : List ℕ) (done : List Deed) (deed : Deed) → IsDone deed → IsWanting reply → AcksBy ask reply done → Contains done deed → ⊥
wanting_acks Nothing reply done deed is wanting acks has = never_none deed done acks has
wanting_acks ToBoot reply done deed is wanting acks has = never_none deed done acks has
wanting_acks (ToMake key lines count blocks) reply done deed is wanting acks has = wanting_one (tellable (ToMake key lines count blocks)) reply done deed wanting acks has
wanting_acks (ToMakeListed key number) reply done deed is wanting acks has = wanting_one (tellable (ToMakeListed key number)) reply done deed wanting acks has
wanting_acks (ToDrop key slices force) reply done deed is wanting acks has = wanting_one (tellable (ToDrop key slices force)) reply done deed wanting acks has
wanting_acks (ToDo asked) reply done deed is wanting acks has = wanting_deed asked reply done deed wanting acks has
wanting_acks (ToSee key volume at count) reply done deed is wanting (inl acks) has = never_none deed done acks.1 has
wanting_acks (ToSee key volume at count) reply done deed is wanting (inr acks) has = subst IsDone (sym (only_one (Saw key volume at acks.blocks) deed done acks.seen has)) is

-- what a reply acknowledges of a line it acknowledges, or one like it, whatever is known of what the line asks
pub acked_by : (host : Host) (text reply : List ℕ) (deed : Deed) → IsDone deed → (ask : Ask) → Asks host text ask → (told : List Deed) → AcksBy ask reply told → Contains told deed → (also : Ask) → AsksBy host text reply also → (done : List Deed) → AcksBy also reply done → HasLike done deed
acked_by host text reply deed is ask asks told acks has also (inl same) done acks_too =
    acked_once also reply told done deed is (subst (λ (a : Ask). AcksBy a reply told) (one_asked host text ask also asks same) acks) acks_too has
acked_by host text reply deed is ask asks told acks has also (inr (nothing, wanting)) done acks_too = absurd (wanting_acks ask reply told deed is wanting acks has)

same_key_made : (its key : Key) → Created its ≡ Created key → its ≡ key
same_key_made its key same = cc (same)

of_places : (key its : Key) (change : Change) (other : Deed) → Contains (Created its ∷ Changed its change ∷ []) (Created key) → Contains (Created its ∷ Changed its change ∷ []) other → (asked : Option Change) × (other ≡ deed_of key asked)
of_places key its change other one two = by (first_or_behind (Created its) (Created key) (Changed its change ∷ []) one) (first_or_behind (Created its) other (Changed its change ∷ []) two) where
  by : (Created its ≡ Created key) ⊎ Contains (Changed its change ∷ []) (Created key) → (Created its ≡ other) ⊎ Contains (Changed its change ∷ []) other → (asked : Option Change) × (other ≡ deed_of key asked)
  by (inl same) (inl made) = (None, sym made ∙ same)
  by (inl same) (inr behind) = (Some change, sym (only_one (Changed its change) other (Changed its change ∷ []) refl behind) ∙ ap (λ (k : Key). Changed k change) (same_key_made its key same))
  by (inr behind) second = absurd (let same = only_one (Changed its change) (Created key) (Changed its change ∷ []) refl behind in cc (same))

never_dropped : (its : Key) (slices : List SliceName) (force : Bool) (key : Key) → Contains (tellable (ToDrop its slices force)) (Created key) → ⊥
never_dropped its slices force key has = by force (first_or_behind (Changed its (changes.DropPlaces slices)) (Created key) (cond force (Deleted its ∷ []) []) has) where
  by : (f : Bool) → (Changed its (changes.DropPlaces slices) ≡ Created key) ⊎ Contains (cond f (Deleted its ∷ []) []) (Created key) → ⊥
  by f (inl same) = absurd (cc (same))
  by true (inr has) = absurd (let same = only_one (Deleted its) (Created key) (Deleted its ∷ []) refl has in cc (same))
  by false (inr has) = absurd (omega (arith, has.1))

-- a creation is like itself, or a change of the same database
pub made_like : (key : Key) (other : Deed) → IsLike (Created key) other → (asked : Option Change) × (other ≡ deed_of key asked)
made_like key other (inl same) = (None, sym same)
made_like key other (inr (Nothing, one, two)) = absurd (omega (arith, one.1))
made_like key other (inr (ToBoot, one, two)) = absurd (omega (arith, one.1))
made_like key other (inr (ToMake its lines count blocks, one, two)) = of_places key its _ other one two
made_like key other (inr (ToMakeListed its number, one, two)) = of_places key its (changes.AddListed number) other one two
made_like key other (inr (ToDrop its slices force, one, two)) = absurd (never_dropped its slices force key one)
made_like key other (inr (ToDo deed, one, two)) = (None, sym (only_one deed other (deed ∷ []) refl two) ∙ only_one deed (Created key) (deed ∷ []) refl one)
made_like key other (inr (ToSee its volume at count, one, two)) = absurd (omega (arith, one.1))

-- a change of the plan, and a write: no other deed is like it
abbrev pub IsSure : Deed → Type 0
IsSure (Created key) = ⊥
IsSure (Changed key (OfPlan change)) = Unit {0}
IsSure (Changed key (changes.AddPlaces slices count blocks)) = ⊥
IsSure (Changed key (changes.AddListed number)) = ⊥
IsSure (Changed key (changes.DropPlaces slices)) = ⊥
IsSure (Changed key FirstPlace) = ⊥
IsSure (Deleted key) = ⊥
IsSure (Wrote key volume at blocks) = Unit {0}
IsSure (Saw key volume at blocks) = ⊥

never_sure : (a b deed : Deed) → (IsSure a → ⊥) → (IsSure b → ⊥) → Contains (a ∷ b ∷ []) deed → IsSure deed → ⊥
never_sure a b deed one two has sure = elim (first_or_behind a deed (b ∷ []) has) [
  | inl same ↦ one (subst IsSure (sym same) sure)
  | inr behind ↦ two (subst IsSure (sym (only_one b deed (b ∷ []) refl behind)) sure)
]

pub sure_like : (deed other : Deed) → IsSure deed → IsLike deed other → deed ≡ other
sure_like deed other sure (inl same) = same
sure_like deed other sure (inr (Nothing, one, two)) = absurd (omega (arith, one.1))
sure_like deed other sure (inr (ToBoot, one, two)) = absurd (omega (arith, one.1))
sure_like deed other sure (inr (ToMake its lines count blocks, one, two)) = absurd (never_sure (Created its) (Changed its _) deed (λ no. no) (λ no. no) one sure)
sure_like deed other sure (inr (ToMakeListed its number, one, two)) = absurd (never_sure (Created its) (Changed its (changes.AddListed number)) deed (λ no. no) (λ no. no) one sure)
sure_like deed other sure (inr (ToDrop its slices true, one, two)) = absurd (never_sure (Changed its (changes.DropPlaces slices)) (Deleted its) deed (λ no. no) (λ no. no) one sure)
sure_like deed other sure (inr (ToDrop its slices false, one, two)) = absurd (subst IsSure (sym (only_one (Changed its (changes.DropPlaces slices)) deed (Changed its (changes.DropPlaces slices) ∷ []) refl one)) sure)
sure_like deed other sure (inr (ToDo asked, one, two)) = sym (only_one asked deed (asked ∷ []) refl one) ∙ only_one asked other (asked ∷ []) refl two
sure_like deed other sure (inr (ToSee its volume at count, one, two)) = absurd (omega (arith, one.1))

-- among more deeds
like_in : (a b : List Deed) (deed : Deed) → a ≡ b → HasLike a deed → HasLike b deed
like_in a b deed is like = (like.0, subst (λ (l : List Deed). Contains l like.0) is like.1, like.2)

pub like_before : (first rest es : List Event) → es ≡ first ++ rest → (deed : Deed) → HasLike (told_by first) deed → HasLike (told_by es) deed
like_before first rest es is deed like = like_in (told_by first ++ told_by rest) (told_by es) deed (sym (ap told_by is ∙ all_more tells first rest)) (like.0, Contains-append_left (told_by first) (told_by rest) like.0 like.1, like.2)

pub like_behind : (first rest es : List Event) → es ≡ first ++ rest → (deed : Deed) → HasLike (told_by rest) deed → HasLike (told_by es) deed
like_behind first rest es is deed like = like_in (told_by first ++ told_by rest) (told_by es) deed (sym (ap told_by is ∙ all_more tells first rest)) (like.0, Contains-append_right (told_by first) (told_by rest) like.0 like.1, like.2)

pub behind_none : (script : Script) → behind script [] ≡ script
behind_none at_end = refl
behind_none (spent lines bytes) = refl
behind_none (too_long more) = refl
behind_none (line text more) = refl

pub behind_more : (script : Script) (a b : List (List ℕ)) → behind script (a ++ b) ≡ behind (behind script a) b
behind_more at_end a b = refl
behind_more (spent lines bytes) a b = refl
behind_more (too_long more) [] b = refl
behind_more (too_long more) (reply ∷ a) b = behind_more more a b
behind_more (line text more) [] b = refl
behind_more (line text more) (reply ∷ a) b = behind_more more a b

nothing_front : (es fs : List Event) → es ≡ [] → es ++ fs ≡ fs
nothing_front es fs none = ap (λ (l : List Event). l ++ fs) none

module _ (host : Host) where
  pub told_none : (script : Script) (deed : Deed) → IsTold host script [] deed → ⊥
  told_none at_end deed is = is
  told_none (spent lines bytes) deed is = is
  told_none (too_long more) deed is = is
  told_none (line text more) deed is = is

  -- nothing happened yet
  pub idle_none : AreIdle host []
  idle_none = record { tells = refl; issues = tt; begins = tt }

  pub in_work_none : (down : Context) (script : Script) → InWork host [] down script []
  in_work_none down at_end = idle_none
  in_work_none down (spent lines bytes) = idle_none
  in_work_none down (too_long more) = idle_none
  in_work_none down (line text more) = inl (refl, refl)

  module _ (Left : Context → Script → List Event → Type 0) where
    at_end_left : (down : Context) (replies : List (List ℕ)) (es : List Event) → ComeOf host Left down at_end replies es → Left down at_end es
    at_end_left down [] es come = come
    at_end_left down (reply ∷ replies) es come = come

    spent_left : (down : Context) (lines bytes : ℕ) (replies : List (List ℕ)) (es : List Event) → ComeOf host Left down (spent lines bytes) replies es → Left down (spent lines bytes) es
    spent_left down lines bytes [] es come = come
    spent_left down lines bytes (reply ∷ replies) es come = come

    -- what is left where no events came
    left_behind : (now down : Context) (script : Script) (es fs : List Event) → NothingLeft now down script es → (P : Context → List Event → Type 0) → P now fs → P down (es ++ fs)
    left_behind now down script es fs none P come = subst (λ (d : Context). P d (es ++ fs)) (sym none.1) (subst (P now) (sym (nothing_front es fs none.0)) come)

    -- what a line settled is known, where all that came behind it is settled
    then_settled : (now after : Context) (more : Script) (a : List (List ℕ)) (es : List Event) → IsSettled now → (a ≢ [] → IsSettled after) → ComeOf host (NothingLeft now) after more a es → IsSettled after
    then_settled now after more [] es known some none = subst IsSettled (sym none.1) known
    then_settled now after more (reply ∷ a) es known some come = some (λ is. absurd (cc (is)))

    -- those of some replies, and those of the ones behind them
    pub come_more : (now down : Context) (script : Script) (a b : List (List ℕ)) (es fs : List Event) → IsSettled now → ComeOf host (NothingLeft now) down script a es → ComeOf host Left now (behind script a) b fs → ComeOf host Left down script (a ++ b) (es ++ fs)
    come_more now down script [] b es fs known none come =
        left_behind now down script es fs none (λ d l. ComeOf host Left d script b l) (subst (λ (s : Script). ComeOf host Left now s b fs) (behind_none script) come)
    come_more now down at_end (reply ∷ a) b es fs known none come = left_behind now down at_end es fs none (λ d l. Left d at_end l) (at_end_left now b fs come)
    come_more now down (spent lines bytes) (reply ∷ a) b es fs known none come = left_behind now down (spent lines bytes) es fs none (λ d l. Left d (spent lines bytes) l) (spent_left now lines bytes b fs come)
    come_more now down (too_long more) (reply ∷ a) b es fs known first come = (
      first.0,
      first.1 ++ fs,
      ap (λ (l : List Event). l ++ fs) first.2 ∙ append_assoc first.0 first.1 fs,
      first.3,
      come_more now down more a b first.1 fs known first.4 come,
    )
    come_more now down (line text more) (reply ∷ a) b es fs known first come = (
      first.0,
      first.1 ++ fs,
      ap (λ (l : List Event). l ++ fs) first.2 ∙ append_assoc first.0 first.1 fs,
      first.3,
      first.4,
      λ some. then_settled now first.3 more a first.1 known first.5 first.6,
      come_more now first.3 more a b first.1 fs known first.6 come,
    )

    -- what the replies tell, or a deed like it, the events tell
    pub come_told : (down : Context) (script : Script) (replies : List (List ℕ)) (es : List Event) (deed : Deed) → IsDone deed → ComeOf host Left down script replies es → IsTold host script replies deed → HasLike (told_by es) deed
    come_told down script [] es deed done come is = absurd (told_none script deed is)
    come_told down at_end (reply ∷ replies) es deed done come is = absurd is
    come_told down (spent lines bytes) (reply ∷ replies) es deed done come is = absurd is
    come_told down (too_long more) (reply ∷ replies) es deed done come is = like_behind come.0 come.1 es come.2 deed (come_told down more replies come.1 deed done come.4 is)
    come_told down (line text more) (reply ∷ replies) es deed done come (inl here) =
        like_before come.0 come.1 es come.2 deed (like_in come.4.done (told_by come.0) deed (sym come.4.does.tells) (acked_by host text reply deed done here.0 here.1 here.2 here.3 here.4 come.4.ask come.4.asks come.4.done come.4.acks))
    come_told down (line text more) (reply ∷ replies) es deed done come (inr is) = like_behind come.0 come.1 es come.2 deed (come_told come.3 more replies come.1 deed done come.6 is)

  -- those of one line, told by its one reply
  pub come_line : (Left : Context → Script → List Event → Type 0) (down then : Context) (text : List ℕ) (more : Script) (reply : List ℕ) (es : List Event) → AreOfLine host text down reply es then → Left then more [] → ComeOf host Left down (line text more) (reply ∷ []) es
  come_line Left down then text more reply es of_line left = (es, [], sym (append-nil es), then, of_line, (λ some. absurd (some refl)), left)

  pub come_long : (Left : Context → Script → List Event → Type 0) (down : Context) (more : Script) (reply : List ℕ) (es : List Event) → AreIdle host es → Left down more [] → ComeOf host Left down (too_long more) (reply ∷ []) es
  come_long Left down more reply es idle left = (es, [], sym (append-nil es), idle, left)
