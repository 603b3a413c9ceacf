-- The set of an entry's names is that of its first word.
use Rattle.std.proofs.Common.{◌≡◌, ℕ, true, Option, None, Some, refl, sym, ◌∙◌, ap, subst, List, [], ◌∷◌, arith}
use Rattle.std.proofs.lemmas.Slice.Eq.{bytes_eq-Decides}
use Rattle.mdv_parts.specs.declared.names.Scope.{Scope}
use Rattle.mdv_parts.specs.declared.part.Part.{Part}
use Rattle.mdv_parts.specs.declared.part.Part.TheVariants.{Number, Size, Slice, Volume, Pool, Replicas, Letter}
use Rattle.mdv_parts.specs.Names.{same_set}
use Rattle.mdv_parts.specs.Part.{IsPart, AreParts}
use Rattle.mdv_parts.proofs.OnePart.{kind, kind_of, one_list}
use Rattle.mdv_name.specs.declared.volume.VolName.{VolName}
use Rattle.mdv_name.specs.declared.volume.PoolName.{PoolName}
use Rattle.mdv_name.proofs.Volumes.{one_volume, one_pool}
use Rattle.mdv_name.specs.Volume.{IsVolName, IsPoolName, SpellsVolume, pool_text}
use Rattle.mdv_tab.specs.declared.entry.Entry.{Entry}
use Rattle.mdv_tab.specs.Form.{entry_of}
use Rattle.mdv_tab.specs.Gather.{IsSetOf, IsReadWith}
use Rattle.mdv_tab.specs.Text.{IsEntry}

pub same : (s t : Option (List ℕ)) → same_set s t ≡ true → s ≡ t
same None None is = refl
same None (Some t) is = cc
same (Some s) None is = cc
same (Some s) (Some t) is = ap (λ (l : List ℕ). Some l) ((bytes_eq-Decides s t).0 is)

pub same_again : (s : Option (List ℕ)) → same_set s s ≡ true
same_again None = refl
same_again (Some s) = (bytes_eq-Decides s s).1 refl

pub volume_part : (w : List ℕ) (v : VolName) → IsVolName v → SpellsVolume v w → IsPart (Scope.Only v.set) w (Volume v.volume)
volume_part w v form is = record { set = v.set; fits = same_again v.set; form = form; spelled = is }

pub pool_part : (w : List ℕ) (p : PoolName) → IsPoolName p → w ≡ pool_text p → IsPart (Scope.Only p.set) w (Pool p.pool)
pool_part w p form is = record { set = p.set; fits = same_again p.set; form = form; spelled = is }

pub kinds : (s t : Scope) (w : List ℕ) (p q : Part) → IsPart s w p → IsPart t w q → kind p ≡ kind q
kinds s t w p q first second = sym (kind_of s w p first) ∙ kind_of t w q second

-- no word spells both a volume and a pool
pub never_both : (w : List ℕ) (v : VolName) (p : PoolName) → IsVolName v → IsPoolName p → SpellsVolume v w → w ≡ pool_text p → ⊥
never_both w v p form also first second =
    let same : 3 ≡ 4 = kinds (Scope.Only v.set) (Scope.Only p.set) w (Volume v.volume) (Pool p.pool) (volume_part w v form first) (pool_part w p also second) in
    omega (arith, same)

-- an entry's set is that of its first word
entry_set : (w : List ℕ) (ws : List (List ℕ)) (set : Option (List ℕ)) (e : Entry) → IsSetOf w set → (s : Option (List ℕ)) (ps : List Part) → AreParts (Scope.Only s) (w ∷ ws) ps → entry_of s ps ≡ Some e → s ≡ set
entry_set w ws set e of s [] are is = absurd are
entry_set w ws set e of s (Volume v ∷ ps) are is = sym (same are.0.set s are.0.fits) ∙ sym (of.volume (record { set = are.0.set; volume = v }) are.0.form are.0.spelled)
entry_set w ws set e of s (Pool p ∷ ps) are is = sym (same are.0.set s are.0.fits) ∙ sym (of.pool (record { set = are.0.set; pool = p }) are.0.form are.0.spelled)
entry_set w ws set e of None (Replicas n ∷ ps) are is =
    sym (of.other (λ v form spells. let same : 5 ≡ 3 = kinds (Scope.Only None) (Scope.Only v.set) w (Replicas n) (Volume v.volume) are.0 (volume_part w v form spells) in omega (arith, same)) (λ p form spells.
    let same : 5 ≡ 4 = kinds (Scope.Only None) (Scope.Only p.set) w (Replicas n) (Pool p.pool) are.0 (pool_part w p form spells) in
    omega (arith, same)))
entry_set w ws set e of (Some s) (Replicas n ∷ ps) are is = cc
entry_set w ws set e of s (Number n ∷ ps) are is = cc
entry_set w ws set e of s (Size n ∷ ps) are is = cc
entry_set w ws set e of s (Slice n ∷ ps) are is = cc
entry_set w ws set e of s (Letter n ∷ ps) are is = cc

-- and the first word has no other
set_of_entry : (w : List ℕ) (ws : List (List ℕ)) (e : Entry) → (s : Option (List ℕ)) (ps : List Part) → AreParts (Scope.Only s) (w ∷ ws) ps → entry_of s ps ≡ Some e → IsSetOf w s
set_of_entry w ws e s [] are is = absurd are
set_of_entry w ws e s (Volume u ∷ ps) are is =
    let name : VolName = record { set = are.0.set; volume = u } in
    let set : s ≡ are.0.set = sym (same are.0.set s are.0.fits) in
    record {
      volume = λ v form spells. set ∙ ap (λ (n : VolName). n.set) (one_volume name v w are.0.form form are.0.spelled spells);
      pool = λ p form spells. absurd (never_both w name p are.0.form form are.0.spelled spells);
      other = λ no_volume no_pool. absurd (no_volume name are.0.form are.0.spelled);
    }
set_of_entry w ws e s (Pool q ∷ ps) are is =
    let name : PoolName = record { set = are.0.set; pool = q } in
    let set : s ≡ are.0.set = sym (same are.0.set s are.0.fits) in
    record {
      volume = λ v form spells. absurd (never_both w v name form are.0.form spells are.0.spelled);
      pool = λ p form spells. set ∙ ap (λ (n : PoolName). n.set) (one_pool name p are.0.form form (sym are.0.spelled ∙ spells));
      other = λ no_volume no_pool. absurd (no_pool name are.0.form are.0.spelled);
    }
set_of_entry w ws e None (Replicas n ∷ ps) are is =
    record {
      volume = λ v form spells. let same : 5 ≡ 3 = kinds (Scope.Only None) (Scope.Only v.set) w (Replicas n) (Volume v.volume) are.0 (volume_part w v form spells) in absurd (omega (arith, same));
      pool = λ p form spells. let same : 5 ≡ 4 = kinds (Scope.Only None) (Scope.Only p.set) w (Replicas n) (Pool p.pool) are.0 (pool_part w p form spells) in absurd (omega (arith, same));
      other = λ no_volume no_pool. refl;
    }
set_of_entry w ws e (Some s) (Replicas n ∷ ps) are is = cc
set_of_entry w ws e s (Number n ∷ ps) are is = cc
set_of_entry w ws e s (Size n ∷ ps) are is = cc
set_of_entry w ws e s (Slice n ∷ ps) are is = cc
set_of_entry w ws e s (Letter n ∷ ps) are is = cc

never_empty : (s : Option (List ℕ)) (ps : List Part) (e : Entry) → AreParts (Scope.Only s) [] ps → entry_of s ps ≡ Some e → ⊥
never_empty s [] e are is = cc
never_empty s (p ∷ ps) e are is = are

-- no words spell no entry
pub no_words : (e : Entry) → IsEntry [] e → ⊥
no_words e is = never_empty is.set is.parts e is.spelled is.form

pub one_entry : (all : List (List ℕ)) (e f : Entry) → IsEntry all e → IsEntry all f → e ≡ f
one_entry [] e f a b = absurd (no_words e a)
one_entry (w ∷ ws) e f a b =
    let of : IsSetOf w b.set = set_of_entry w ws f b.set b.parts b.spelled b.form in
    let one : a.set ≡ b.set = entry_set w ws b.set e of a.set a.parts a.spelled a.form in
    let again : AreParts (Scope.Only b.set) (w ∷ ws) a.parts = subst (λ (s : Option (List ℕ)). AreParts (Scope.Only s) (w ∷ ws) a.parts) one a.spelled in
    let parts : a.parts ≡ b.parts = one_list (Scope.Only b.set) (w ∷ ws) a.parts b.parts again b.spelled in
    let made : Some e ≡ Some f = sym a.form ∙ ap (λ (s : Option (List ℕ)). entry_of s a.parts) one ∙ ap (entry_of b.set) parts ∙ b.form in
    cc

-- no entry, where the words spell none with the set of the first
pub no_entry : (all ws : List (List ℕ)) (w : List ℕ) (set : Option (List ℕ)) → all ≡ w ∷ ws → IsSetOf w set → IsReadWith set all None → (e : Entry) → IsEntry all e → ⊥
no_entry all ws w set first of none e is =
    let spelled : AreParts (Scope.Only is.set) (w ∷ ws) is.parts = subst (λ (l : List (List ℕ)). AreParts (Scope.Only is.set) l is.parts) first is.spelled in
    let one : is.set ≡ set = entry_set w ws set e of is.set is.parts spelled is.form in
    let again : AreParts (Scope.Only set) all is.parts = subst (λ (s : Option (List ℕ)). AreParts (Scope.Only s) all is.parts) one is.spelled in
    let never : None ≡ Some e = sym (none is.parts again) ∙ ap (λ (s : Option (List ℕ)). entry_of s is.parts) (sym one) ∙ is.form in
    cc

pub read_with : (set : Option (List ℕ)) (ws : List (List ℕ)) (ps : List Part) (o : Option Entry) → AreParts (Scope.Only set) ws ps → o ≡ entry_of set ps → IsReadWith set ws o
read_with set ws ps (Some e) are is = (ps, are, sym is)
read_with set ws ps None are is = λ qs also. ap (entry_of set) (one_list (Scope.Only set) ws qs ps also are) ∙ sym is

-- words that are none are no words of a first word
pub some_words : (all ws : List (List ℕ)) (w : List ℕ) → all ≡ w ∷ ws → all ≡ [] → ⊥
some_words all ws w first none = let never : w ∷ ws ≡ [] = sym first ∙ none in cc
