-- The set of a line's names, and the words behind `all`.
use Rattle.std.proofs.Common.{◌≡◌, ℕ, Bool, true, false, Option, None, Some, refl, sym, ◌∙◌, ap, subst, inl, inr, ◌⊎◌, List, [], ◌∷◌, ◌++◌, length, codes, arith}
use Rattle.mdv_name.specs.declared.volume.VolName.{VolName}
use Rattle.mdv_name.specs.declared.volume.PoolName.{PoolName}
use Rattle.mdv_name.proofs.Volumes.{one_volume, one_pool}
use Rattle.mdv_parts.specs.declared.names.Scope.{Scope}
use Rattle.mdv_parts.specs.declared.part.Part.{Part}
use Rattle.mdv_parts.specs.declared.part.Part.TheVariants.{Number, Size, Slice, Volume, Pool, Replicas, Letter}
use Rattle.mdv_parts.specs.Part.{IsPart, AreParts}
use Rattle.mdv_parts.proofs.OnePart.{kind, kind_of, one_list}
use Rattle.mdv_tab.specs.Gather.{IsSetOf}
use Rattle.mdv_tab.proofs.SetOf.{same, volume_part, pool_part, kinds, never_both}
use Rattle.mdv_command.specs.declared.command.Command.{Command}
use Rattle.mdv_command.specs.declared.given.Given.{Given}
use Rattle.mdv_grammar.specs.declared.verb.Verb.{Verb}
use Rattle.mdv_command.specs.Given.{set_given}
use Rattle.mdv_grammar.specs.Operands.{command_of, IsSetOfLine, scope_of, all_words, AsksParts, IsSetFor, begins_with_all}
use Rattle.mdv_grammar.proofs.Addresses.{tail_words}

-- a word that is no volume and no pool
other_word : (w : List ℕ) (set : Option (List ℕ)) (scope : Scope) (p : Part) → IsPart scope w p → (3 ≡ kind p → ⊥) → (4 ≡ kind p → ⊥) → IsSetOf w set → set ≡ None
other_word w set scope p is volume pool of =
    of.other (λ v form spells. volume (kinds (Scope.Only v.set) scope w (Volume v.volume) p (volume_part w v form spells) is)) (λ v form spells. pool (kinds (Scope.Only v.set) scope w (Pool v.pool) p (pool_part w v form spells) is))

-- and of such a word that set is none
other_set : (w : List ℕ) (scope : Scope) (p : Part) → IsPart scope w p → (3 ≡ kind p → ⊥) → (4 ≡ kind p → ⊥) → IsSetOf w None
other_set w scope p is volume pool =
    record {
      volume = λ v form spells. absurd (volume (kinds (Scope.Only v.set) scope w (Volume v.volume) p (volume_part w v form spells) is));
      pool = λ v form spells. absurd (pool (kinds (Scope.Only v.set) scope w (Pool v.pool) p (pool_part w v form spells) is));
      other = λ no_volume no_pool. refl;
    }

-- what the names of a line have, the reader takes
pub owned_of : (given set : Option (List ℕ)) (ws : List (List ℕ)) (ps : List Part) → IsSetFor given ws set → AreParts (scope_of given set) ws ps → IsSetOfLine given set ps
owned_of (Some s) set ws ps is are = is
owned_of None set [] ps is are = inr is
owned_of None set (w ∷ ws) [] is are = absurd are
owned_of None set (w ∷ ws) (Volume v ∷ ps) is are = inl refl
owned_of None set (w ∷ ws) (Pool p ∷ ps) is are = inl refl
owned_of None set (w ∷ ws) (Number n ∷ ps) is are = inr (other_word w set (Scope.Only set) (Number n) are.0 (λ e. omega (arith, e)) (λ e. omega (arith, e)) is)
owned_of None set (w ∷ ws) (Size n ∷ ps) is are = inr (other_word w set (Scope.Only set) (Size n) are.0 (λ e. omega (arith, e)) (λ e. omega (arith, e)) is)
owned_of None set (w ∷ ws) (Slice n ∷ ps) is are = inr (other_word w set (Scope.Only set) (Slice n) are.0 (λ e. omega (arith, e)) (λ e. omega (arith, e)) is)
owned_of None set (w ∷ ws) (Replicas n ∷ ps) is are = inr (other_word w set (Scope.Only set) (Replicas n) are.0 (λ e. omega (arith, e)) (λ e. omega (arith, e)) is)
owned_of None set (w ∷ ws) (Letter n ∷ ps) is are = inr (other_word w set (Scope.Only set) (Letter n) are.0 (λ e. omega (arith, e)) (λ e. omega (arith, e)) is)

none_of : {A : Type 0} → (set : Option A) → (false ≡ true) ⊎ (set ≡ None) → set ≡ None
none_of set (inl never) = absurd (cc)
none_of set (inr is) = is

-- the set of a line is the one that the reader takes for its words
pub set_for : (given set : Option (List ℕ)) (ws : List (List ℕ)) (ps : List Part) → IsSetOfLine given set ps → AreParts (scope_of given set) ws ps → IsSetFor given ws set
set_for (Some s) set ws ps owned are = owned
set_for None set [] [] owned are = none_of set owned
set_for None set [] (p ∷ ps) owned are = absurd are
set_for None set (w ∷ ws) [] owned are = absurd are
set_for None set (w ∷ ws) (Volume u ∷ ps) owned are =
    let name : VolName = record { set = are.0.set; volume = u } in
    let one : set ≡ are.0.set = sym (same are.0.set set are.0.fits) in
    record {
      volume = λ v form spells. one ∙ ap (λ (n : VolName). n.set) (one_volume name v w are.0.form form are.0.spelled spells);
      pool = λ p form spells. absurd (never_both w name p are.0.form form are.0.spelled spells);
      other = λ no_volume no_pool. absurd (no_volume name are.0.form are.0.spelled);
    }
set_for None set (w ∷ ws) (Pool q ∷ ps) owned are =
    let name : PoolName = record { set = are.0.set; pool = q } in
    let one : set ≡ are.0.set = sym (same are.0.set set are.0.fits) in
    record {
      volume = λ v form spells. absurd (never_both w v name form are.0.form spells are.0.spelled);
      pool = λ p form spells. one ∙ ap (λ (n : PoolName). n.set) (one_pool name p are.0.form form (sym are.0.spelled ∙ spells));
      other = λ no_volume no_pool. absurd (no_pool name are.0.form are.0.spelled);
    }
set_for None set (w ∷ ws) (Number n ∷ ps) owned are = subst (IsSetOf w) (sym (none_of set owned)) (other_set w (Scope.Only set) (Number n) are.0 (λ e. omega (arith, e)) (λ e. omega (arith, e)))
set_for None set (w ∷ ws) (Size n ∷ ps) owned are = subst (IsSetOf w) (sym (none_of set owned)) (other_set w (Scope.Only set) (Size n) are.0 (λ e. omega (arith, e)) (λ e. omega (arith, e)))
set_for None set (w ∷ ws) (Slice n ∷ ps) owned are = subst (IsSetOf w) (sym (none_of set owned)) (other_set w (Scope.Only set) (Slice n) are.0 (λ e. omega (arith, e)) (λ e. omega (arith, e)))
set_for None set (w ∷ ws) (Replicas n ∷ ps) owned are = subst (IsSetOf w) (sym (none_of set owned)) (other_set w (Scope.Only set) (Replicas n) are.0 (λ e. omega (arith, e)) (λ e. omega (arith, e)))
set_for None set (w ∷ ws) (Letter n ∷ ps) owned are = subst (IsSetOf w) (sym (none_of set owned)) (other_set w (Scope.Only set) (Letter n) are.0 (λ e. omega (arith, e)) (λ e. omega (arith, e)))

-- two sets for the same words, of which one is that of a line, are one
pub one_set : (given set other : Option (List ℕ)) (ws : List (List ℕ)) (ps : List Part) → IsSetFor given ws set → IsSetOfLine given other ps → AreParts (scope_of given other) ws ps → other ≡ set
one_set (Some s) set other ws ps is owned are = owned ∙ sym is
one_set None set other [] [] is owned are = none_of other owned ∙ sym is
one_set None set other [] (p ∷ ps) is owned are = absurd are
one_set None set other (w ∷ ws) [] is owned are = absurd are
one_set None set other (w ∷ ws) (Volume u ∷ ps) is owned are = sym (same are.0.set other are.0.fits) ∙ sym (is.volume (record { set = are.0.set; volume = u }) are.0.form are.0.spelled)
one_set None set other (w ∷ ws) (Pool q ∷ ps) is owned are = sym (same are.0.set other are.0.fits) ∙ sym (is.pool (record { set = are.0.set; pool = q }) are.0.form are.0.spelled)
one_set None set other (w ∷ ws) (Number n ∷ ps) is owned are = none_of other owned ∙ sym (other_word w set (Scope.Only other) (Number n) are.0 (λ e. omega (arith, e)) (λ e. omega (arith, e)) is)
one_set None set other (w ∷ ws) (Size n ∷ ps) is owned are = none_of other owned ∙ sym (other_word w set (Scope.Only other) (Size n) are.0 (λ e. omega (arith, e)) (λ e. omega (arith, e)) is)
one_set None set other (w ∷ ws) (Slice n ∷ ps) is owned are = none_of other owned ∙ sym (other_word w set (Scope.Only other) (Slice n) are.0 (λ e. omega (arith, e)) (λ e. omega (arith, e)) is)
one_set None set other (w ∷ ws) (Replicas n ∷ ps) is owned are = none_of other owned ∙ sym (other_word w set (Scope.Only other) (Replicas n) are.0 (λ e. omega (arith, e)) (λ e. omega (arith, e)) is)
one_set None set other (w ∷ ws) (Letter n ∷ ps) is owned are = none_of other owned ∙ sym (other_word w set (Scope.Only other) (Letter n) are.0 (λ e. omega (arith, e)) (λ e. omega (arith, e)) is)

-- `all` is no part
all_part : (scope : Scope) (p : Part) → IsPart scope (codes "all") p → ⊥
all_part scope (Replicas n) is = let size : 3 ≡ 6 = ap length is.1 in omega (arith, size)
all_part scope (Number n) is = let same : 5 ≡ 1 = kind_of scope (codes "all") (Number n) is in omega (arith, same)
all_part scope (Size n) is = let same : 5 ≡ 1 = kind_of scope (codes "all") (Size n) is in omega (arith, same)
all_part scope (Slice n) is = let same : 5 ≡ 2 = kind_of scope (codes "all") (Slice n) is in omega (arith, same)
all_part scope (Volume n) is = let same : 5 ≡ 3 = kind_of scope (codes "all") (Volume n) is in omega (arith, same)
all_part scope (Pool n) is = let same : 5 ≡ 4 = kind_of scope (codes "all") (Pool n) is in omega (arith, same)
all_part scope (Letter n) is = let same : 5 ≡ 0 = kind_of scope (codes "all") (Letter n) is in omega (arith, same)

pub no_all : (scope : Scope) (ws : List (List ℕ)) (ps : List Part) → AreParts scope ws ps → begins_with_all ws → ⊥
no_all scope [] ps are begins = let never : [] ≡ codes "all" ∷ begins.0 = begins.1 in absurd (cc)
no_all scope (w ∷ ws) [] are begins = are
no_all scope (w ∷ ws) (p ∷ ps) are begins =
    let word : w ≡ codes "all" = let whole : w ∷ ws ≡ codes "all" ∷ begins.0 = begins.1 in cc in
    all_part scope p (subst (λ (l : List ℕ). IsPart scope l p) word are.0)

pub same_names :
    (all other : Bool) (ws names others : List (List ℕ)) (scope : Scope) (ps : List Part) → ws ≡ all_words all ++ names → (all ≡ false → begins_with_all ws → ⊥) → ws ≡ all_words other ++ others → AreParts scope others ps →
    (other ≡ all) × (others ≡ names)
same_names true true ws names others scope ps first none second are = (refl, ap tail_words (sym second ∙ first))
same_names true false ws names others scope ps first none second are = absurd (no_all scope others ps are (names, sym second ∙ first))
same_names false true ws names others scope ps first none second are = absurd (none refl (others, second))
same_names false false ws names others scope ps first none second are = (refl, sym second ∙ first)

-- what a line has for its set, its names and `all`
pub record SameOperands (a b : Bool) (vs ws : List (List ℕ)) (s t : Option (List ℕ)) : Type 0 where
  pub all : b ≡ a
  pub names : ws ≡ vs
  pub set : t ≡ s

pub same_operands :
    (verb : Verb) (gs : List Given) (ws names : List (List ℕ)) (set : Option (List ℕ)) (all : Bool) (c : Command) → ws ≡ all_words all ++ names → (all ≡ false → begins_with_all ws → ⊥) → IsSetFor (set_given gs) names set →
    (asks : AsksParts verb gs ws c) → SameOperands all asks.all names asks.names set asks.set
same_operands verb gs ws names set all c place none is asks =
    let both = same_names all asks.all ws names asks.names (scope_of (set_given gs) asks.set) asks.parts place none asks.place asks.spelled in
    let spelled : AreParts (scope_of (set_given gs) asks.set) names asks.parts = subst (λ (l : List (List ℕ)). AreParts (scope_of (set_given gs) asks.set) l asks.parts) both.1 asks.spelled in
    record { all = both.0; names = both.1; set = one_set (set_given gs) set asks.set names asks.parts is asks.owned spelled }

respelled : (verb : Verb) (gs : List Given) (ws names : List (List ℕ)) (set : Option (List ℕ)) (all : Bool) (c : Command) (asks : AsksParts verb gs ws c) → SameOperands all asks.all names asks.names set asks.set → AreParts (scope_of (set_given gs) set) names asks.parts
respelled verb gs ws names set all c asks same =
    let first : AreParts (scope_of (set_given gs) set) asks.names asks.parts = subst (λ (s : Option (List ℕ)). AreParts (scope_of (set_given gs) s) asks.names asks.parts) same.set asks.spelled in
    subst (λ (l : List (List ℕ)). AreParts (scope_of (set_given gs) set) l asks.parts) same.names first

reformed : (verb : Verb) (gs : List Given) (ws names : List (List ℕ)) (set : Option (List ℕ)) (all : Bool) (ps : List Part) (c : Command) (asks : AsksParts verb gs ws c) → SameOperands all asks.all names asks.names set asks.set → AreParts (scope_of (set_given gs) set) names ps →
    command_of verb gs set all ps ≡ Some c
reformed verb gs ws names set all ps c asks same are =
    let parts : asks.parts ≡ ps = one_list (scope_of (set_given gs) set) names asks.parts ps (respelled verb gs ws names set all c asks same) are in
    ap (command_of verb gs set all) (sym parts) ∙ ap (λ (b : Bool). command_of verb gs set b asks.parts) (sym same.all) ∙ ap (λ (s : Option (List ℕ)). command_of verb gs s asks.all asks.parts) (sym same.set) ∙ asks.form

pub asks_parts :
    (verb : Verb) (gs : List Given) (ws names : List (List ℕ)) (given set : Option (List ℕ)) (scope : Scope) (all : Bool) (ps qs : List Part) (c : Command) → given ≡ set_given gs → ws ≡ all_words all ++ names →
    IsSetFor given names set → scope ≡ scope_of given set → AreParts scope names ps → qs ≡ ps → Some c ≡ command_of verb gs set all qs → AsksParts verb gs ws c
asks_parts verb gs ws names given set scope all ps qs c named place is scoped are parts form =
    let here : AreParts (scope_of given set) names ps = subst (λ (s : Scope). AreParts s names ps) scoped are in
    let spelled : AreParts (scope_of (set_given gs) set) names ps = subst (λ (s : Option (List ℕ)). AreParts (scope_of s set) names ps) named here in
    let for : IsSetFor (set_given gs) names set = subst (λ (s : Option (List ℕ)). IsSetFor s names set) named is in
    record { all = all; names = names; set = set; parts = ps; place = place; owned = owned_of (set_given gs) set names ps for spelled; spelled = spelled; form = ap (command_of verb gs set all) (sym parts) ∙ sym form }

pub no_parts :
    (verb : Verb) (gs : List Given) (ws names : List (List ℕ)) (given set : Option (List ℕ)) (scope : Scope) (all : Bool) → given ≡ set_given gs → ws ≡ all_words all ++ names → (all ≡ false → begins_with_all ws → ⊥) →
    IsSetFor given names set → scope ≡ scope_of given set → ((ps : List Part) → AreParts scope names ps → ⊥) → (c : Command) → AsksParts verb gs ws c → ⊥
no_parts verb gs ws names given set scope all named place none is scoped wrong c asks =
    let for : IsSetFor (set_given gs) names set = subst (λ (s : Option (List ℕ)). IsSetFor s names set) named is in
    let one = same_operands verb gs ws names set all c place none for asks in
    let spelled = respelled verb gs ws names set all c asks one in
    let scopes : scope_of (set_given gs) set ≡ scope = ap (λ (s : Option (List ℕ)). scope_of s set) (sym named) ∙ sym scoped in
    wrong asks.parts (subst (λ (s : Scope). AreParts s names asks.parts) scopes spelled)

pub no_form :
    (verb : Verb) (gs : List Given) (ws names : List (List ℕ)) (given set : Option (List ℕ)) (scope : Scope) (all : Bool) (ps qs : List Part) → given ≡ set_given gs → ws ≡ all_words all ++ names →
    (all ≡ false → begins_with_all ws → ⊥) → IsSetFor given names set → scope ≡ scope_of given set → AreParts scope names ps → qs ≡ ps → None ≡ command_of verb gs set all qs → (c : Command) → AsksParts verb gs ws c → ⊥
no_form verb gs ws names given set scope all ps qs named place none is scoped are parts form c asks =
    let for : IsSetFor (set_given gs) names set = subst (λ (s : Option (List ℕ)). IsSetFor s names set) named is in
    let one = same_operands verb gs ws names set all c place none for asks in
    let here : AreParts (scope_of given set) names ps = subst (λ (s : Scope). AreParts s names ps) scoped are in
    let spelled : AreParts (scope_of (set_given gs) set) names ps = subst (λ (s : Option (List ℕ)). AreParts (scope_of s set) names ps) named here in
    let never : None ≡ Some c = form ∙ ap (command_of verb gs set all) parts ∙ reformed verb gs ws names set all ps c asks one spelled in
    cc

-- one command at most
plain_false : (verb : Verb) (gs : List Given) (ws : List (List ℕ)) (c : Command) (asks : AsksParts verb gs ws c) → asks.all ≡ false → begins_with_all ws → ⊥
plain_false verb gs ws c asks off =
    let names : ws ≡ asks.names = asks.place ∙ ap (λ (b : Bool). all_words b ++ asks.names) off in
    no_all (scope_of (set_given gs) asks.set) ws asks.parts (subst (λ (l : List (List ℕ)). AreParts (scope_of (set_given gs) asks.set) l asks.parts) (sym names) asks.spelled)

pub one_parts : (verb : Verb) (gs : List Given) (ws : List (List ℕ)) (c d : Command) → AsksParts verb gs ws c → AsksParts verb gs ws d → c ≡ d
one_parts verb gs ws c d first second =
    let for = set_for (set_given gs) first.set first.names first.parts first.owned first.spelled in
    let one = same_operands verb gs ws first.names first.set first.all d first.place (plain_false verb gs ws c first) for second in
    let both : Some c ≡ Some d = sym first.form ∙ reformed verb gs ws first.names first.set first.all first.parts d second one first.spelled in
    cc
