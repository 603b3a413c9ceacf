-- Options, read letter by letter and word by word.
use Rattle.std.proofs.Common.{◌≡◌, ◌<◌, ◌≤◌, ◌==◌, ℕ, Bool, true, false, cond, ◌-◌, get_or, take, drop, Option, None, Some, refl, sym, ◌∙◌, ap, subst, List, [], ◌∷◌, ◌++◌, length, append_assoc, append-nil, arith}
use Rattle.mdv_name.proofs.FirstLines.{take_all}
use Rattle.mdv_command.specs.declared.given.Given.{Given}
use Rattle.mdv_command.specs.declared.given.Given.TheVariants.{Flag}
use Rattle.mdv_command.specs.Given.{has_byte}
use Rattle.mdv_command.specs.Options.{Spelled, AreGiven, put, value_at, with_value, last_of, letters_of, first_options, Gives, joined, is_dashed, begins_with_dash, ReadsOptions, GivesMore, GivesNone}
use Rattle.mdv_command.specs.Options.Spelled.{Bare}

abbrev pub Taken : Type 0
Taken = Option (List Spelled × List (List ℕ))

abbrev pub put_all : List Spelled → Taken → Taken
put_all ss None = None
put_all ss (Some (more, ws)) = Some (ss ++ more, ws)

abbrev pub first_of_pair : {A : Type 0} → {B : Type 0} → A → Option (A × B) → A
first_of_pair a None = a
first_of_pair a (Some (x, y)) = x

abbrev pub second_of_pair : {A : Type 0} → {B : Type 0} → B → Option (A × B) → B
second_of_pair b None = b
second_of_pair b (Some (x, y)) = y

put_none : (t : Taken) → t ≡ put_all [] t
put_none None = refl
put_none (Some (more, ws)) = refl

put_more : (ss : List Spelled) (s : Spelled) (t : Taken) → put_all ss (put s t) ≡ put_all (ss ++ s ∷ []) t
put_more ss s None = refl
put_more ss s (Some (more, ws)) = ap (λ (l : List Spelled). Some (l, ws)) (sym (append_assoc ss (s ∷ []) more))

are_append : (ss ts : List Spelled) (gs hs : List Given) → AreGiven ss gs → AreGiven ts hs → AreGiven (ss ++ ts) (gs ++ hs)
are_append [] ts [] hs first second = second
are_append [] ts (g ∷ gs) hs first second = absurd first
are_append (s ∷ ss) ts [] hs first second = absurd first
are_append (s ∷ ss) ts (g ∷ gs) hs first second = (first.0, are_append ss ts gs hs first.1 second)

are_behind : (ss ts : List Spelled) (gs : List Given) → AreGiven (ss ++ ts) gs → (hs : List Given) × AreGiven ts hs
are_behind [] ts gs are = (gs, are)
are_behind (s ∷ ss) ts [] are = absurd are
are_behind (s ∷ ss) ts (g ∷ gs) are = are_behind ss ts gs are.1

are_front : (ss ts : List Spelled) (gs : List Given) → AreGiven (ss ++ ts) gs → (hs : List Given) × AreGiven ss hs
are_front [] ts gs are = ([], tt)
are_front (s ∷ ss) ts [] are = absurd are
are_front (s ∷ ss) ts (g ∷ gs) are = let rest = are_front ss ts gs are.1 in (g ∷ rest.0, (are.0, rest.1))

-- the letters so far have no value
pub record LettersSoFar (flags values all rest : List ℕ) (ws : List (List ℕ)) (old new : List Given) : Type 0 where
  pub spelled : List Spelled
  pub given : List Given
  pub place : letters_of flags values all ws ≡ put_all spelled (letters_of flags values rest ws)
  pub are : AreGiven spelled given
  pub behind : new ≡ old ++ given

pub letters_none : (flags values all : List ℕ) (ws : List (List ℕ)) (old : List Given) → LettersSoFar flags values all all ws old old
letters_none flags values all ws old = record { spelled = []; given = []; place = put_none (letters_of flags values all ws); are = tt; behind = sym (append-nil old) }

pub letters_more :
    (flags values all rest : List ℕ) (b : ℕ) (ws : List (List ℕ)) (old new next : List Given) → LettersSoFar flags values all (b ∷ rest) ws old new → has_byte flags b ≡ true → next ≡ new ++ Flag b ∷ [] →
    LettersSoFar flags values all rest ws old next
letters_more flags values all rest b ws old new next far is push =
    record {
      spelled = far.spelled ++ Bare b ∷ [];
      given = far.given ++ Flag b ∷ [];
      place = far.place ∙ ap (λ (v : Bool). put_all far.spelled (cond v (put (Bare b) (letters_of flags values rest ws)) (last_of values b rest ws))) is ∙ put_more far.spelled (Bare b) (letters_of flags values rest ws);
      are = are_append far.spelled (Bare b ∷ []) far.given (Flag b ∷ []) far.are (refl, tt);
      behind = push ∙ ap (λ (l : List Given). l ++ Flag b ∷ []) far.behind ∙ append_assoc old far.given (Flag b ∷ []);
    }

at_last : (flags values all rest : List ℕ) (b : ℕ) (ws : List (List ℕ)) (old new : List Given) (far : LettersSoFar flags values all (b ∷ rest) ws old new) → has_byte flags b ≡ false →
    letters_of flags values all ws ≡ put_all far.spelled (last_of values b rest ws)
at_last flags values all rest b ws old new far is = far.place ∙ ap (λ (v : Bool). put_all far.spelled (cond v (put (Bare b) (letters_of flags values rest ws)) (last_of values b rest ws))) is

pub letters_last :
    (flags values all rest : List ℕ) (b : ℕ) (ws behind : List (List ℕ)) (old new next : List Given) → LettersSoFar flags values all (b ∷ rest) ws old new → has_byte flags b ≡ false →
    GivesMore (last_of values b rest ws) behind new next → GivesMore (letters_of flags values all ws) behind old next
letters_last flags values all rest b ws behind old new next far is more =
    record {
      spelled = far.spelled ++ more.spelled;
      given = far.given ++ more.given;
      is = at_last flags values all rest b ws old new far is ∙ ap (put_all far.spelled) more.is;
      are = are_append far.spelled more.spelled far.given more.given far.are more.are;
      behind = more.behind ∙ ap (λ (l : List Given). l ++ more.given) far.behind ∙ append_assoc old far.given more.given;
    }

none_behind : (ss : List Spelled) (t : Taken) → GivesNone t → GivesNone (put_all ss t)
none_behind ss None none spelled rest given is are = cc
none_behind ss (Some (more, ws)) none spelled rest given is are =
    let same : ss ++ more ≡ spelled = ap (first_of_pair []) is in
    let tail = are_behind ss more given (subst (λ (l : List Spelled). AreGiven l given) (sym same) are) in
    none more ws tail.0 refl tail.1

pub letters_stop :
    (flags values all rest : List ℕ) (b : ℕ) (ws : List (List ℕ)) (old new : List Given) → LettersSoFar flags values all (b ∷ rest) ws old new → has_byte flags b ≡ false →
    GivesNone (last_of values b rest ws) → GivesNone (letters_of flags values all ws)
letters_stop flags values all rest b ws old new far is none =
    subst GivesNone (sym (at_last flags values all rest b ws old new far is)) (none_behind far.spelled (last_of values b rest ws) none)

pub letters_end : (flags values all : List ℕ) (ws : List (List ℕ)) (old new : List Given) → LettersSoFar flags values all [] ws old new → GivesMore (letters_of flags values all ws) ws old new
letters_end flags values all ws old new far =
    record { spelled = far.spelled; given = far.given; is = far.place ∙ ap (λ (l : List Spelled). Some (l, ws)) (append-nil far.spelled); are = far.are; behind = far.behind }

-- a list by its first and the rest
pub uncons : (r : List ℕ) → 1 ≤ length r → r ≡ get_or r 0 0 ∷ take (length r - 1) (drop 1 r)
uncons [] some = absurd (omega arith)
uncons (b ∷ bs) some = let size : length (b ∷ bs) - 1 ≡ length bs = omega arith in ap (λ (l : List ℕ). b ∷ l) (sym (ap (λ (n : ℕ). take n bs) size ∙ take_all bs))

pub letters_step :
    (flags values all r : List ℕ) (ws : List (List ℕ)) (old new next : List Given) → LettersSoFar flags values all r ws old new → 1 ≤ length r → has_byte flags (get_or r 0 0) ≡ true → next ≡ new ++ Flag (get_or r 0 0) ∷ [] →
    LettersSoFar flags values all (take (length r - 1) (drop 1 r)) ws old next
letters_step flags values all r ws old new next far some is push =
    letters_more flags values all (take (length r - 1) (drop 1 r)) (get_or r 0 0) ws old new next (subst (λ (l : List ℕ). LettersSoFar flags values all l ws old new) (uncons r some) far) is push

pub letters_ended :
    (flags values all r : List ℕ) (ws behind : List (List ℕ)) (old new next : List Given) → LettersSoFar flags values all r ws old new → 1 ≤ length r → has_byte flags (get_or r 0 0) ≡ false →
    GivesMore (last_of values (get_or r 0 0) (take (length r - 1) (drop 1 r)) ws) behind new next → GivesMore (letters_of flags values all ws) behind old next
letters_ended flags values all r ws behind old new next far some is more =
    letters_last flags values all (take (length r - 1) (drop 1 r)) (get_or r 0 0) ws behind old new next (subst (λ (l : List ℕ). LettersSoFar flags values all l ws old new) (uncons r some) far) is more

pub letters_wrong :
    (flags values all r : List ℕ) (ws : List (List ℕ)) (old new : List Given) → LettersSoFar flags values all r ws old new → 1 ≤ length r → has_byte flags (get_or r 0 0) ≡ false →
    GivesNone (last_of values (get_or r 0 0) (take (length r - 1) (drop 1 r)) ws) → GivesNone (letters_of flags values all ws)
letters_wrong flags values all r ws old new far some is none =
    letters_stop flags values all (take (length r - 1) (drop 1 r)) (get_or r 0 0) ws old new (subst (λ (l : List ℕ). LettersSoFar flags values all l ws old new) (uncons r some) far) is none

pub letters_over : (flags values all r : List ℕ) (ws : List (List ℕ)) (old new : List Given) → LettersSoFar flags values all r ws old new → length r < 1 → GivesMore (letters_of flags values all ws) ws old new
letters_over flags values all [] ws old new far none = letters_end flags values all ws old new far
letters_over flags values all (b ∷ r) ws old new far none = absurd (omega arith)

value_shorter : (bs text : List ℕ) (ws rest : List (List ℕ)) → value_at bs ws ≡ Some (text, rest) → length rest ≤ length ws
value_shorter (b ∷ bs) text ws rest is = let same : ws ≡ rest = ap (second_of_pair []) is in omega (arith, ap length same)
value_shorter [] text (w ∷ ws) rest is = let same : ws ≡ rest = ap (second_of_pair []) is in omega (arith, ap length same)
value_shorter [] text [] rest is = absurd (cc)

with_shorter : (b : ℕ) (t : Option (List ℕ × List (List ℕ))) (n : ℕ) → ((text : List ℕ) (rest : List (List ℕ)) → t ≡ Some (text, rest) → length rest ≤ n) → (ss : List Spelled) (rest : List (List ℕ)) → with_value b t ≡ Some (ss, rest) → length rest ≤ n
with_shorter b None n short ss rest is = absurd (cc)
with_shorter b (Some (text, ws)) n short ss rest is = let same : ws ≡ rest = ap (second_of_pair []) is in omega (arith, short text ws refl, ap length same)

last_shorter : (values : List ℕ) (b : ℕ) (bs : List ℕ) (ws : List (List ℕ)) (ss : List Spelled) (rest : List (List ℕ)) → last_of values b bs ws ≡ Some (ss, rest) → length rest ≤ length ws
last_shorter values b bs ws ss rest =
    let P : Bool → Type 0 = λ v. cond v (with_value b (value_at bs ws)) None ≡ Some (ss, rest) → length rest ≤ length ws in
    elim (has_byte values b) as P [ true ↦ λ is. with_shorter b (value_at bs ws) (length ws) (λ text more at. value_shorter bs text ws more at) ss rest is | false ↦ λ is. absurd (cc) ]

put_shorter : (s : Spelled) (t : Taken) (n : ℕ) → ((ss : List Spelled) (rest : List (List ℕ)) → t ≡ Some (ss, rest) → length rest ≤ n) → (ss : List Spelled) (rest : List (List ℕ)) → put s t ≡ Some (ss, rest) → length rest ≤ n
put_shorter s None n short ss rest is = absurd (cc)
put_shorter s (Some (more, ws)) n short ss rest is = let same : ws ≡ rest = ap (second_of_pair []) is in omega (arith, short more ws refl, ap length same)

pub letters_shorter : (flags values bs : List ℕ) (ws : List (List ℕ)) (ss : List Spelled) (rest : List (List ℕ)) → letters_of flags values bs ws ≡ Some (ss, rest) → length rest ≤ length ws
letters_shorter flags values [] ws ss rest = λ is. let same : ws ≡ rest = ap (second_of_pair []) is in omega (arith, ap length same)
letters_shorter flags values (b ∷ bs) ws ss rest =
    let next = letters_shorter flags values bs ws in
    let P : Bool → Type 0 = λ v. cond v (put (Bare b) (letters_of flags values bs ws)) (last_of values b bs ws) ≡ Some (ss, rest) → length rest ≤ length ws in
    elim (has_byte flags b) as P [ true ↦ λ is. put_shorter (Bare b) (letters_of flags values bs ws) (length ws) next ss rest is | false ↦ λ is. last_shorter values b bs ws ss rest is ]

-- the words so far are options
pub record OptionsSoFar (flags values : List ℕ) (all ws : List (List ℕ)) (gs : List Given) : Type 0 where
  pub spelled : List (List Spelled)
  pub gives : Gives flags values spelled all ws
  pub given : AreGiven (joined spelled) gs

pub options_none : (flags values : List ℕ) (all : List (List ℕ)) → OptionsSoFar flags values all all []
options_none flags values all = record { spelled = []; gives = refl; given = tt }

gives_more : (flags values : List ℕ) (sp : List (List Spelled)) (all ws rest : List (List ℕ)) (ss : List Spelled) → Gives flags values sp all ws → first_options flags values ws ≡ Some (ss, rest) → Gives flags values (sp ++ ss ∷ []) all rest
gives_more flags values [] all ws rest ss far is = (rest, ap (first_options flags values) far ∙ is, refl)
gives_more flags values (s ∷ sp) all ws rest ss far is = (far.0, far.1, gives_more flags values sp far.0 ws rest ss far.2 is)

joined_more : (sp : List (List Spelled)) (ss : List Spelled) → joined (sp ++ ss ∷ []) ≡ joined sp ++ ss
joined_more [] ss = append-nil ss
joined_more (s ∷ sp) ss = ap (λ (l : List Spelled). s ++ l) (joined_more sp ss) ∙ sym (append_assoc s (joined sp) ss)

-- a word with a dash and a letter
first_of : (flags values letters : List ℕ) (behind : List (List ℕ)) → 0 < length letters → first_options flags values ((45 ∷ letters) ∷ behind) ≡ letters_of flags values letters behind
first_of flags values [] behind some = absurd (omega arith)
first_of flags values (b ∷ bs) behind some = refl

pub options_more :
    (flags values : List ℕ) (all ws behind rest : List (List ℕ)) (w letters : List ℕ) (gs next : List Given) → OptionsSoFar flags values all ws gs → ws ≡ w ∷ behind → w ≡ 45 ∷ letters → 0 < length letters →
    GivesMore (letters_of flags values letters behind) rest gs next → OptionsSoFar flags values all rest next
options_more flags values all ws behind rest w letters gs next far first dashed some more =
    let here : ws ≡ (45 ∷ letters) ∷ behind = first ∙ ap (λ (l : List ℕ). l ∷ behind) dashed in
    let reads : first_options flags values ws ≡ Some (more.spelled, rest) = ap (first_options flags values) here ∙ first_of flags values letters behind some ∙ more.is in
    record {
      spelled = far.spelled ++ more.spelled ∷ [];
      gives = gives_more flags values far.spelled all ws rest more.spelled far.gives reads;
      given =
          let are = are_append (joined far.spelled) more.spelled gs more.given far.given more.are in
          let all_given : AreGiven (joined (far.spelled ++ more.spelled ∷ [])) (gs ++ more.given) = subst (λ (l : List Spelled). AreGiven l (gs ++ more.given)) (sym (joined_more far.spelled more.spelled)) are in
          subst (λ (l : List Given). AreGiven (joined (far.spelled ++ more.spelled ∷ [])) l) (sym more.behind) all_given;
    }

pub options_end : (flags values : List ℕ) (all ws : List (List ℕ)) (gs : List Given) → OptionsSoFar flags values all ws gs → begins_with_dash ws ≡ false → ReadsOptions flags values all gs ws
options_end flags values all ws gs far ended = record { spelled = far.spelled; gives = far.gives; ended = ended; given = far.given }

pub dashed_first : (flags values : List ℕ) (ws rest : List (List ℕ)) (ss : List Spelled) → first_options flags values ws ≡ Some (ss, rest) → begins_with_dash ws ≡ true
dashed_first flags values [] rest ss = λ is. absurd (cc)
dashed_first flags values ([] ∷ ws) rest ss = λ is. absurd (cc)
dashed_first flags values ((d ∷ []) ∷ ws) rest ss = λ is. absurd (cc)
dashed_first flags values ((d ∷ b ∷ bs) ∷ ws) rest ss =
    let P : Bool → Type 0 = λ v. cond v (letters_of flags values (b ∷ bs) ws) None ≡ Some (ss, rest) → v ≡ true in
    elim (d == 45) as P [ true ↦ λ is. refl | false ↦ λ is. absurd (cc) ]

-- what the next word gives stands among all options
record Next (flags values : List ℕ) (ws : List (List ℕ)) (all : List Spelled) : Type 0 where
  here : List Spelled
  rest : List (List ℕ)
  front : List Spelled
  back : List Spelled
  is : first_options flags values ws ≡ Some (here, rest)
  place : all ≡ front ++ (here ++ back)

next_of :
    (flags values : List ℕ) (sp sq : List (List Spelled)) (all ws rest : List (List ℕ)) → Gives flags values sp all ws → Gives flags values sq all rest → begins_with_dash rest ≡ false → begins_with_dash ws ≡ true →
    Next flags values ws (joined sq)
next_of flags values [] [] all ws rest far whole ended dashed = let never : true ≡ false = sym dashed ∙ ap begins_with_dash (sym far ∙ whole) ∙ ended in absurd (cc)
next_of flags values [] (s ∷ sq) all ws rest far whole ended dashed = record { here = s; rest = whole.0; front = []; back = joined sq; is = ap (first_options flags values) (sym far) ∙ whole.1; place = refl }
next_of flags values (s ∷ sp) [] all ws rest far whole ended dashed =
    let never : true ≡ false = sym (dashed_first flags values all far.0 s far.1) ∙ ap begins_with_dash whole ∙ ended in
    absurd (cc)
next_of flags values (s ∷ sp) (t ∷ sq) all ws rest far whole ended dashed =
    let both : Some (s, far.0) ≡ Some (t, whole.0) = sym far.1 ∙ whole.1 in
    let same : whole.0 ≡ far.0 = sym (ap (second_of_pair []) both) in
    let next = next_of flags values sp sq far.0 ws rest far.2 (subst (λ (l : List (List ℕ)). Gives flags values sq l rest) same whole.2) ended dashed in
    record { here = next.here; rest = next.rest; front = t ++ next.front; back = next.back; is = next.is; place = ap (λ (l : List Spelled). t ++ l) next.place ∙ sym (append_assoc t next.front (next.here ++ next.back)) }

pub options_stop :
    (flags values : List ℕ) (all ws : List (List ℕ)) (gs : List Given) → OptionsSoFar flags values all ws gs → begins_with_dash ws ≡ true → GivesNone (first_options flags values ws) →
    (hs : List Given) (rest : List (List ℕ)) → ReadsOptions flags values all hs rest → ⊥
options_stop flags values all ws gs far dashed none hs rest reads =
    let next = next_of flags values far.spelled reads.spelled all ws rest far.gives reads.gives reads.ended dashed in
    let tail = are_behind next.front (next.here ++ next.back) hs (subst (λ (l : List Spelled). AreGiven l hs) next.place reads.given) in
    let here = are_front next.here next.back tail.0 tail.1 in
    none next.here next.rest here.0 next.is here.1

pub bad_word : (flags values : List ℕ) (ws behind : List (List ℕ)) (w letters : List ℕ) → ws ≡ w ∷ behind → w ≡ 45 ∷ letters → 0 < length letters → GivesNone (letters_of flags values letters behind) → GivesNone (first_options flags values ws)
bad_word flags values ws behind w letters first dashed some none =
    let here : first_options flags values ws ≡ letters_of flags values letters behind = ap (first_options flags values) (first ∙ ap (λ (l : List ℕ). l ∷ behind) dashed) ∙ first_of flags values letters behind some in
    subst GivesNone (sym here) none

lone : (flags values letters : List ℕ) (behind : List (List ℕ)) → length letters ≡ 0 → first_options flags values ((45 ∷ letters) ∷ behind) ≡ None
lone flags values [] behind none = refl
lone flags values (b ∷ bs) behind none = absurd (omega arith)

never : GivesNone None
never spelled rest given is are = cc

pub lone_dash : (flags values : List ℕ) (ws behind : List (List ℕ)) (w letters : List ℕ) → ws ≡ w ∷ behind → w ≡ 45 ∷ letters → length letters ≡ 0 → GivesNone (first_options flags values ws)
lone_dash flags values ws behind w letters first dashed none =
    subst GivesNone (sym (ap (first_options flags values) (first ∙ ap (λ (l : List ℕ). l ∷ behind) dashed) ∙ lone flags values letters behind none)) never

pub dashed_word : (ws behind : List (List ℕ)) (w letters : List ℕ) → ws ≡ w ∷ behind → w ≡ 45 ∷ letters → begins_with_dash ws ≡ true
dashed_word ws behind w letters first dashed = ap begins_with_dash (first ∙ ap (λ (l : List ℕ). l ∷ behind) dashed)

pub plain_word : (ws behind : List (List ℕ)) (w : List ℕ) → ws ≡ w ∷ behind → is_dashed w ≡ false → begins_with_dash ws ≡ false
plain_word ws behind w first plain = ap begins_with_dash first ∙ plain

pub no_word : (ws : List (List ℕ)) → ws ≡ [] → begins_with_dash ws ≡ false
no_word ws none = ap begins_with_dash none

pub fewer : (flags values letters : List ℕ) (ws behind rest : List (List ℕ)) (w : List ℕ) (old new : List Given) → ws ≡ w ∷ behind → GivesMore (letters_of flags values letters behind) rest old new → length rest < length ws
fewer flags values letters ws behind rest w old new first more = omega (arith, letters_shorter flags values letters behind more.spelled rest more.is, ap length first)
