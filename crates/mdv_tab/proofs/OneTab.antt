-- A text is read in one way.
use Rattle.std.proofs.Common.{◌≡◌, ◌<◌, ◌≤◌, ◌⊎◌, ℕ, refl, sym, ◌∙◌, ap, subst, List, [], ◌∷◌, ◌++◌, length, drop, get_or, length-append, inl, inr, arith}
use Rattle.std.specs.List.{sum_by}
use Rattle.mdv_name.specs.Lines.{lines}
use Rattle.mdv_tab.specs.declared.entry.Entry.{Entry}
use Rattle.mdv_tab.specs.Text.{groups, group_words, IsEntry, Gives, ReadsGroups, IsTab, IsBadLine, HasTooMany}
use Rattle.mdv_tab.proofs.SetOf.{one_entry, no_words}

gives_once : (g : List (List ℕ)) (a b : List Entry) → Gives g a → Gives g b → a ≡ b
gives_once g a b (plain, inl x) (also, inl y) = x.1 ∙ sym y.1
gives_once g a b (plain, inl x) (also, inr y) = absurd (no_words y.0 (subst (λ (ws : List (List ℕ)). IsEntry ws y.0) x.0 y.1))
gives_once g a b (plain, inr x) (also, inl y) = absurd (no_words x.0 (subst (λ (ws : List (List ℕ)). IsEntry ws x.0) y.0 x.1))
gives_once g a b (plain, inr x) (also, inr y) = x.2 ∙ ap (λ (e : Entry). e ∷ []) (one_entry (group_words g) x.0 y.0 x.1 y.1) ∙ sym y.2

reads_once : (gs : List (List (List ℕ))) (a b : List Entry) → ReadsGroups gs a → ReadsGroups gs b → a ≡ b
reads_once [] a b x y = x ∙ sym y
reads_once (g ∷ gs) a b x y = x.4 ∙ ap (λ (l : List Entry). l ++ x.1) (gives_once g x.0 y.0 x.2 y.2) ∙ ap (λ (l : List Entry). y.0 ++ l) (reads_once gs x.1 y.1 x.3 y.3) ∙ sym y.4

pub one_tab : (text : List ℕ) (a b : List Entry) → IsTab text a → IsTab text b → a ≡ b
one_tab text a b x y = reads_once (groups (lines text)) a b x.read y.read

reads_part : (front : List (List (List ℕ))) (g : List (List ℕ)) (behind : List (List (List ℕ))) (es : List Entry) → ReadsGroups (front ++ g ∷ behind) es → (here : List Entry) × Gives g here
reads_part [] g behind es read = (read.0, read.2)
reads_part (f ∷ front) g behind es read = reads_part front g behind read.1 read.3

pub never_bad : (text : List ℕ) (es : List Entry) (n : ℕ) → IsTab text es → IsBadLine text n → ⊥
never_bad text es n tab bad = let part = reads_part bad.front bad.group bad.behind es (subst (λ (gs : List (List (List ℕ))). ReadsGroups gs es) bad.place tab.read) in bad.bad part.0 part.1

-- the entries of the groups in front come first
front_few : (front behind : List (List (List ℕ))) (es first : List Entry) → ReadsGroups (front ++ behind) es → ReadsGroups front first → length first ≤ length es
front_few [] behind es first read also = omega (arith, ap length also)
front_few (f ∷ front) behind es first read also =
    let next = front_few front behind read.1 also.1 read.3 also.3 in
    let same = ap length (gives_once f read.0 also.0 read.2 also.2) in
    omega (arith, next, same, ap length read.4, ap length also.4, length-append read.0 read.1, length-append also.0 also.1)

pub never_many : (text : List ℕ) (es : List Entry) → IsTab text es → (65536 < length text) ⊎ HasTooMany text → ⊥
never_many text es tab (inl long) = omega (arith, tab.short, long)
never_many text es tab (inr many) =
    let few = front_few many.front many.behind es many.entries (subst (λ (gs : List (List (List ℕ))). ReadsGroups gs es) many.place tab.read) many.read in
    omega (arith, few, tab.few, many.many)

abbrev IsBad : List (List ℕ) → Type 0
IsBad g = (es : List Entry) → Gives g es → ⊥

first_of : (g h : List (List ℕ)) (gs hs : List (List (List ℕ))) → g ∷ gs ≡ h ∷ hs → g ≡ h
first_of g h gs hs is = ap (λ (l : List (List (List ℕ))). get_or l 0 []) is

rest_of : (g h : List (List ℕ)) (gs hs : List (List (List ℕ))) → g ∷ gs ≡ h ∷ hs → gs ≡ hs
rest_of g h gs hs is = ap (λ (l : List (List (List ℕ))). drop 1 l) is

one_front :
    (front other : List (List (List ℕ))) (g h : List (List ℕ)) (gs hs : List (List (List ℕ))) (es ds : List Entry) → front ++ g ∷ gs ≡ other ++ h ∷ hs → ReadsGroups front es → ReadsGroups other ds → IsBad g → IsBad h → front ≡ other
one_front [] [] g h gs hs es ds is read also bad wrong = refl
one_front [] (o ∷ other) g h gs hs es ds is read also bad wrong = absurd (bad also.0 (subst (λ (x : List (List ℕ)). Gives x also.0) (sym (first_of g o gs (other ++ h ∷ hs) is)) also.2))
one_front (f ∷ front) [] g h gs hs es ds is read also bad wrong = absurd (wrong read.0 (subst (λ (x : List (List ℕ)). Gives x read.0) (first_of f h (front ++ g ∷ gs) hs is) read.2))
one_front (f ∷ front) (o ∷ other) g h gs hs es ds is read also bad wrong =
    let first : f ≡ o = first_of f o (front ++ g ∷ gs) (other ++ h ∷ hs) is in
    let rest : front ≡ other = one_front front other g h gs hs read.1 also.1 (rest_of f o (front ++ g ∷ gs) (other ++ h ∷ hs) is) read.3 also.3 bad wrong in
    cc

pub one_bad : (text : List ℕ) (m n : ℕ) → IsBadLine text m → IsBadLine text n → m ≡ n
one_bad text m n a b =
    let fronts = one_front a.front b.front a.group b.group a.behind b.behind a.entries b.entries (sym a.place ∙ b.place) a.read b.read a.bad b.bad in
    omega (arith, a.number, b.number, ap (λ (l : List (List (List ℕ))). sum_by length l) fronts)

-- no more entries are read in front of a bad group than stand there
bad_few :
    (front other : List (List (List ℕ))) (g : List (List ℕ)) (gs hs : List (List (List ℕ))) (es ds : List Entry) → front ++ g ∷ gs ≡ other ++ hs → ReadsGroups front es → ReadsGroups other ds → IsBad g → length ds ≤ length es
bad_few front [] g gs hs es ds is read also bad = omega (arith, ap length also)
bad_few [] (o ∷ other) g gs hs es ds is read also bad = absurd (bad also.0 (subst (λ (x : List (List ℕ)). Gives x also.0) (sym (first_of g o gs (other ++ hs) is)) also.2))
bad_few (f ∷ front) (o ∷ other) g gs hs es ds is read also bad =
    let first : f ≡ o = first_of f o (front ++ g ∷ gs) (other ++ hs) is in
    let next = bad_few front other g gs hs read.1 also.1 (rest_of f o (front ++ g ∷ gs) (other ++ hs) is) read.3 also.3 bad in
    let same = ap length (gives_once o read.0 also.0 (subst (λ (x : List (List ℕ)). Gives x read.0) first read.2) also.2) in
    omega (arith, next, same, ap length read.4, ap length also.4, length-append read.0 read.1, length-append also.0 also.1)

pub never_either : (text : List ℕ) (n : ℕ) → IsBadLine text n → (65536 < length text) ⊎ HasTooMany text → ⊥
never_either text n bad (inl long) = omega (arith, bad.short, long)
never_either text n bad (inr many) =
    let few = bad_few bad.front many.front bad.group bad.behind many.behind bad.entries many.entries (sym bad.place ∙ many.place) bad.read many.read bad.bad in
    omega (arith, few, bad.few, many.many)
