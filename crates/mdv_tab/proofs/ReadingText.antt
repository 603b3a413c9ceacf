-- A text, read group by group.
use Rattle.std.proofs.Common.{◌≡◌, ◌≤◌, ◌+◌, ◌⊎◌, ℕ, Bool, refl, sym, ◌∙◌, ap, subst, List, [], ◌∷◌, ◌++◌, length, append_assoc, append-nil, length-append, inl, inr, arith}
use Rattle.std.proofs.lemmas.List.Sums.{sum_by-append}
use Rattle.std.specs.List.{sum_by}
use Rattle.mdv_text.specs.Words.{words}
use Rattle.mdv_name.specs.Lines.{lines}
use Rattle.mdv_tab.specs.declared.entry.Entry.{Entry}
use Rattle.mdv_tab.specs.declared.group.Found.TheVariants.{Blank, Spelled, Bad}
use Rattle.mdv_tab.specs.Gather.{IsGathered}
use Rattle.mdv_tab.specs.Text.{groups, IsEntry, Gives, ReadsGroups, IsTab, IsBadLine, HasTooMany, IsFound, IsFaultOf, AddsFound, IsGroupFaultOf}
use Rattle.mdv_tab.specs.declared.read.TabFault.{TabFault}
use Rattle.mdv_tab.specs.declared.read.TabFault.TheVariants.{BadLine, TooMany, Memory}

-- all groups in front are read
pub record TabSoFar (text rest : List ℕ) (number : ℕ) (es : List Entry) : Type 0 where
  pub front : List (List (List ℕ))
  pub place : groups (lines text) ≡ front ++ groups (lines rest)
  pub read : ReadsGroups front es
  pub counts : number ≡ sum_by length front + 1
  pub size : number + length rest ≤ length text + 1
  pub few : length es ≤ 1024

pub tab_none : (text : List ℕ) → TabSoFar text text 1 []
tab_none text = record { front = []; place = refl; read = refl; counts = refl; size = omega arith; few = omega arith }

reads_more : (front : List (List (List ℕ))) (g : List (List ℕ)) (es here : List Entry) → ReadsGroups front es → Gives g here → ReadsGroups (front ++ g ∷ []) (es ++ here)
reads_more [] g es here read gives = (here, [], gives, refl, ap (λ (l : List Entry). l ++ here) read ∙ sym (append-nil here))
reads_more (f ∷ front) g es here read gives = (read.0, read.1 ++ here, read.2, reads_more front g read.1 here read.3 gives, ap (λ (l : List Entry). l ++ here) read.4 ∙ append_assoc read.0 read.1 here)

sum-last : (front : List (List (List ℕ))) (g : List (List ℕ)) → sum_by length (front ++ g ∷ []) ≡ sum_by length front + length g
sum-last front g = omega (arith, sum_by-append length front (g ∷ []))

pub tab_more :
    (text rest bytes behind : List ℕ) (number count : ℕ) (ascii : Bool) (es here : List Entry) → TabSoFar text rest number es → (far : IsGathered rest bytes ascii count behind) → Gives far.group here → length (es ++ here) ≤ 1024 →
    TabSoFar text behind (number + count) (es ++ here)
tab_more text rest bytes behind number count ascii es here far next gives few =
    record {
      front = far.front ++ next.group ∷ [];
      place = far.place ∙ ap (λ (l : List (List (List ℕ))). far.front ++ l) next.place ∙ sym (append_assoc far.front (next.group ∷ []) (groups (lines behind)));
      read = reads_more far.front next.group es here far.read gives;
      counts = omega (arith, far.counts, next.counts, sum-last far.front next.group);
      size = omega (arith, far.size, next.size, next.counts);
      few = few;
    }

pub gives_none : (rest bytes behind : List ℕ) (count : ℕ) (ascii : Bool) → (next : IsGathered rest bytes ascii count behind) → IsFound ascii (words bytes) Blank → Gives next.group []
gives_none rest bytes behind count ascii next found = (sym next.plain ∙ found.0, inl (sym next.spelled ∙ found.1, refl))

pub gives_one : (rest bytes behind : List ℕ) (count : ℕ) (ascii : Bool) (e : Entry) → (next : IsGathered rest bytes ascii count behind) → IsFound ascii (words bytes) (Spelled e) → Gives next.group (e ∷ [])
gives_one rest bytes behind count ascii e next found = (sym next.plain ∙ found.0, inr (e, subst (λ (ws : List (List ℕ)). IsEntry ws e) next.spelled found.1, refl))

gives_never : (rest bytes behind : List ℕ) (count : ℕ) (ascii : Bool) → (next : IsGathered rest bytes ascii count behind) → IsFound ascii (words bytes) Bad → (es : List Entry) → Gives next.group es → ⊥
gives_never rest bytes behind count ascii next found es (plain, inl blank) = (found (next.plain ∙ plain)).0 (next.spelled ∙ blank.0)
gives_never rest bytes behind count ascii next found es (plain, inr spelled) = (found (next.plain ∙ plain)).1 spelled.0 (subst (λ (ws : List (List ℕ)). IsEntry ws spelled.0) (sym next.spelled) spelled.1)

pub gives_found :
    (rest bytes behind : List ℕ) (count : ℕ) (ascii : Bool) (here : List Entry) → (next : IsGathered rest bytes ascii count behind) →
    (IsFound ascii (words bytes) Blank × (here ≡ [])) ⊎ ((e : Entry) × IsFound ascii (words bytes) (Spelled e) × (here ≡ e ∷ [])) → Gives next.group here
gives_found rest bytes behind count ascii here next (inl blank) = subst (Gives next.group) (sym blank.1) (gives_none rest bytes behind count ascii next blank.0)
gives_found rest bytes behind count ascii here next (inr one) = subst (Gives next.group) (sym one.2) (gives_one rest bytes behind count ascii one.0 next one.1)

pub tab_bad : (text rest bytes behind : List ℕ) (number count : ℕ) (ascii : Bool) (es : List Entry) → length text ≤ 65536 → TabSoFar text rest number es → IsGathered rest bytes ascii count behind → IsFound ascii (words bytes) Bad → IsBadLine text number
tab_bad text rest bytes behind number count ascii es short far next found =
    record {
      short = short;
      front = far.front;
      group = next.group;
      behind = groups (lines behind);
      place = far.place ∙ ap (λ (l : List (List (List ℕ))). far.front ++ l) next.place;
      number = far.counts;
      entries = es;
      read = far.read;
      few = far.few;
      bad = gives_never rest bytes behind count ascii next found;
    }

pub tab_many :
    (text rest bytes behind : List ℕ) (number count : ℕ) (ascii : Bool) (es : List Entry) (e : Entry) → length text ≤ 65536 → TabSoFar text rest number es → IsGathered rest bytes ascii count behind →
    IsFound ascii (words bytes) (Spelled e) → length es ≡ 1024 → HasTooMany text
tab_many text rest bytes behind number count ascii es e short far next found full =
    record {
      short = short;
      front = far.front ++ next.group ∷ [];
      behind = groups (lines behind);
      place = far.place ∙ ap (λ (l : List (List (List ℕ))). far.front ++ l) next.place ∙ sym (append_assoc far.front (next.group ∷ []) (groups (lines behind)));
      entries = es ++ e ∷ [];
      read = reads_more far.front next.group es (e ∷ []) far.read (gives_one rest bytes behind count ascii e next found);
      many = omega (arith, full, length-append es (e ∷ []));
    }

nil : (xs : List ℕ) → length xs ≡ 0 → xs ≡ []
nil [] none = refl
nil (x ∷ xs) none = absurd (omega arith)

pub tab_whole : (text rest : List ℕ) (number : ℕ) (es : List Entry) → length text ≤ 65536 → TabSoFar text rest number es → length rest ≡ 0 → IsTab text es
tab_whole text rest number es short far none =
    let all : groups (lines text) ≡ far.front = far.place ∙ ap (λ (l : List ℕ). far.front ++ groups (lines l)) (nil rest none) ∙ append-nil far.front in
    record { short = short; read = subst (λ (l : List (List (List ℕ))). ReadsGroups l es) (sym all) far.read; few = far.few }

pub tab_adds :
    (text rest bytes behind : List ℕ) (number count : ℕ) (ascii : Bool) (es new : List Entry) → TabSoFar text rest number es → IsGathered rest bytes ascii count behind → AddsFound ascii (words bytes) es new →
    TabSoFar text behind (number + count) new
tab_adds text rest bytes behind number count ascii es new far next adds =
    subst (TabSoFar text behind (number + count)) (sym adds.is) (
    tab_more text rest bytes behind number count ascii es adds.here far next (gives_found rest bytes behind count ascii adds.here next adds.found) (subst (λ (l : List Entry). length l ≤ 1024) adds.is adds.few)
    )

pub tab_fault :
    (text rest bytes behind : List ℕ) (number count : ℕ) (ascii : Bool) (es : List Entry) (f : TabFault) → length text ≤ 65536 → TabSoFar text rest number es → IsGathered rest bytes ascii count behind →
    IsGroupFaultOf ascii (words bytes) es number f → IsFaultOf text f
tab_fault text rest bytes behind number count ascii es (BadLine n) short far next is = subst (IsBadLine text) (sym is.0) (tab_bad text rest bytes behind number count ascii es short far next is.1)
tab_fault text rest bytes behind number count ascii es TooMany short far next is = inr (tab_many text rest bytes behind number count ascii es is.0 short far next is.1 is.2)
tab_fault text rest bytes behind number count ascii es Memory short far next is = tt
