-- Words have one reading as options at most.
use Rattle.std.proofs.Common.{◌≡◌, ℕ, true, false, Some, refl, sym, ◌∙◌, ap, subst, List, [], ◌∷◌, ◌++◌, arith}
use Rattle.std.proofs.lemmas.Fmt.{decimal_injective}
use Rattle.mdv_parts.proofs.OnePart.{one_blocks}
use Rattle.mdv_command.specs.declared.given.Given.{Given}
use Rattle.mdv_command.specs.declared.given.Given.TheVariants.{Flag, Set, Count, Length, Interlace}
use Rattle.mdv_command.specs.Given.{letter_of}
use Rattle.mdv_command.specs.Options.{Spelled, IsValue, IsGiven, AreGiven, Gives, joined, begins_with_dash, ReadsOptions}
use Rattle.mdv_command.specs.Options.Spelled.{Bare, Valued}
use Rattle.mdv_command.proofs.Reading.{first_of_pair, second_of_pair, dashed_first}

value_letter : (b : ℕ) (text : List ℕ) (g : Given) → IsValue b text g → letter_of g ≡ b
value_letter b text (Flag c) is = absurd is
value_letter b text (Set name) is = sym is.0
value_letter b text (Count n) is = sym is.0
value_letter b text (Length n) is = sym is.0
value_letter b text (Interlace n) is = sym is.0

one_value : (b : ℕ) (text : List ℕ) (g h : Given) → IsValue b text g → IsValue b text h → g ≡ h
one_value b text (Flag c) h first second = absurd first
one_value b text (Set m) (Set n) first second = ap Set (sym first.1 ∙ second.1)
one_value b text (Count m) (Count n) first second = ap Count (decimal_injective m n (omega (arith, first.3)) (omega (arith, second.3)) (sym first.1 ∙ second.1))
one_value b text (Length m) (Length n) first second = ap Length (decimal_injective m n (omega (arith, first.3)) (omega (arith, second.3)) (sym first.1 ∙ second.1))
one_value b text (Interlace m) (Interlace n) first second = ap Interlace (one_blocks text m n first.1 second.1)
one_value b text g (Flag c) first second = absurd second
one_value b text g h first second = let same : letter_of g ≡ letter_of h = value_letter b text g first ∙ sym (value_letter b text h second) in absurd (omega (arith, same))

one_given : (s : Spelled) (g h : Given) → IsGiven s g → IsGiven s h → g ≡ h
one_given (Bare b) g h first second = first ∙ sym second
one_given (Valued b text) g h first second = one_value b text g h first second

pub one_each : (ss : List Spelled) (gs hs : List Given) → AreGiven ss gs → AreGiven ss hs → gs ≡ hs
one_each [] [] [] first second = refl
one_each [] [] (h ∷ hs) first second = absurd second
one_each [] (g ∷ gs) hs first second = absurd first
one_each (s ∷ ss) [] hs first second = absurd first
one_each (s ∷ ss) (g ∷ gs) [] first second = absurd second
one_each (s ∷ ss) (g ∷ gs) (h ∷ hs) first second =
    let here = one_given s g h first.0 second.0 in
    let rest = one_each ss gs hs first.1 second.1 in
    cc

-- the same words of options, and the same rest
one_gives :
    (flags values : List ℕ) (sp sq : List (List Spelled)) (all r t : List (List ℕ)) → Gives flags values sp all r → Gives flags values sq all t → begins_with_dash r ≡ false → begins_with_dash t ≡ false →
    (joined sp ≡ joined sq) × (r ≡ t)
one_gives flags values [] [] all r t first second one two = (refl, sym first ∙ second)
one_gives flags values [] (u ∷ sq) all r t first second one two =
    let never : true ≡ false = sym (dashed_first flags values all second.0 u second.1) ∙ ap begins_with_dash first ∙ one in
    absurd (cc)
one_gives flags values (s ∷ sp) [] all r t first second one two =
    let never : true ≡ false = sym (dashed_first flags values all first.0 s first.1) ∙ ap begins_with_dash second ∙ two in
    absurd (cc)
one_gives flags values (s ∷ sp) (u ∷ sq) all r t first second one two =
    let both : Some (u, second.0) ≡ Some (s, first.0) = sym second.1 ∙ first.1 in
    let rest : second.0 ≡ first.0 = ap (second_of_pair []) both in
    let here : s ≡ u = sym (ap (first_of_pair []) both) in
    let more = one_gives flags values sp sq first.0 r t first.2 (subst (λ (l : List (List ℕ)). Gives flags values sq l t) rest second.2) one two in
    (ap (λ (l : List Spelled). l ++ joined sp) here ∙ ap (λ (l : List Spelled). u ++ l) more.0, more.1)

pub one_options : (flags values : List ℕ) (ws r t : List (List ℕ)) (gs hs : List Given) → ReadsOptions flags values ws gs r → ReadsOptions flags values ws hs t → (gs ≡ hs) × (r ≡ t)
one_options flags values ws r t gs hs first second =
    let same = one_gives flags values first.spelled second.spelled ws r t first.gives second.gives first.ended second.ended in
    (one_each (joined second.spelled) gs hs (subst (λ (l : List Spelled). AreGiven l gs) same.0 first.given) second.given, same.1)
