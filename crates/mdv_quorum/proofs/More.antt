-- One table more in the family.
use Rattle.std.proofs.Common.{◌≡◌, ◌<◌, ◌≤◌, ◌+◌, ℕ, Bool, true, refl, ap, sym, ◌∙◌, subst, List, [], ◌∷◌, ◌++◌, length, inl, inr, ◌⊎◌, Option, None, Some, arith, length-append, ◌&&◌}
use Rattle.std.proofs.lemmas.List.{get_or_append_left, get_or_push}
use Rattle.std.proofs.lemmas.Bool.{or_cases, and_parts, ltb-true, eqb-true, cases_eq}
use Rattle.std.specs.Prelude.{option_to_list, nat_lt, ◌==◌}
use Rattle.mdv_quorum.specs.Below.{Mark, Spot, SpotLists, Version, SpotState, is_in, is_named, last_list, is_read, is_written, table_at, no_table, boot_of, mark_below}
use Rattle.mdv_votes.proofs.Quorums.{lists_at, IsCommon}
use Rattle.mdv_quorum.proofs.Invariant.{newest, boot_at, plan_at, Knows, KnownIn, PlacesOk, IsLive, MadeFrom, TablesOk, ListsOk, AllCommon, PlansOk, Fits, IsPrefix, HasAll}

-- a mark above another has no smaller boot number
pub boot_rises : (a b : Mark) → mark_below a b ≡ true → a.boot ≤ b.boot
boot_rises a b h =
    elim (or_cases (nat_lt a.boot b.boot) ((a.boot == b.boot) && nat_lt a.count b.count) h) [
      | inl less ↦ omega (arith, ltb-true a.boot b.boot less)
      | inr same ↦ omega (arith, eqb-true a.boot b.boot (and_parts (a.boot == b.boot) (nat_lt a.count b.count) same).0)
    ]

pub boots_rise : (set : Bool) (family : List Version) → TablesOk set family → (i j : ℕ) → i ≤ j → j < length family → boot_at family i ≤ boot_at family j
boots_rise set family ok i j h hj =
    elim (cases_eq i j) [
      | inl same ↦ subst (λ (k : ℕ). boot_at family i ≤ boot_at family k) same (omega arith)
      | inr apart ↦ let less : i < j = omega arith in boot_rises (table_at family i).mark (table_at family j).mark (ok.marks i j less hj)
    ]

pub none_some : (p : Spot) → None ≡ Some p → ⊥
none_some p e = cc

module _ (set : Bool) (family : List Version) (next : Version) where
  pub longer : length (family ++ next ∷ []) ≡ length family + 1
  longer = length-append family (next ∷ [])

  pub old_table : (i : ℕ) → i < length family → table_at (family ++ next ∷ []) i ≡ table_at family i
  old_table i h = get_or_append_left family (next ∷ []) no_table i h

  pub new_table : table_at (family ++ next ∷ []) (length family) ≡ next
  new_table = get_or_push family next no_table (length family) refl

  pub new_at : (i : ℕ) → i ≡ length family → table_at (family ++ next ∷ []) i ≡ next
  new_at i e = ap (λ (k : ℕ). table_at (family ++ next ∷ []) k) e ∙ new_table

  pub which : (i : ℕ) → i < length (family ++ next ∷ []) → (i < length family) ⊎ (i ≡ length family)
  which i h = elim (cases_eq i (length family)) [ inl e ↦ inr e | inr e ↦ inl (omega (arith, longer)) ]

  pub made_more : (i : ℕ) (t : Version) (o : Option ℕ) → i ≤ length family → MadeFrom family i t o → MadeFrom (family ++ next ∷ []) i t o
  made_more i t None h m = m
  made_more i t (Some k) h m =
      let hk : k < length family = omega (arith, m.0) in
      (m.0, m.1 ∙ ap (λ (s : Version). s.plan ++ option_to_list t.change) (sym (old_table k hk)))

  pub common_more : (firm : Option ℕ) (a b : SpotLists) → ((f : ℕ) → firm ≡ Some f → f < length family) → IsCommon family firm a b → IsCommon (family ++ next ∷ []) firm a b
  common_more firm a b firm_in c = record {
    shared = c.shared;
    last = elim c.last [
      | inl last ↦ inl last
      | inr f ↦ inr (f.0, f.1, f.2 ∙ ap (λ (t : Version). last_list t.lists) (sym (old_table f.0 (firm_in f.0 f.1))))
    ];
  }

  pub boot_more : (o : Option ℕ) → ((j : ℕ) → o ≡ Some j → j < length family) → boot_of (family ++ next ∷ []) o ≡ boot_of family o
  boot_more None known = refl
  boot_more (Some j) known = ap (λ (t : Version). t.mark.boot) (old_table j (known j refl))

  pub knows_more : (places : List SpotState) (p : Spot) (b : ℕ) → ((j : ℕ) → newest places p ≡ Some j → j < length family) → Knows family places p b → Knows (family ++ next ∷ []) places p b
  knows_more places p b known h =
      elim h [ inl claimed ↦ inl claimed | inr shown ↦ inr (subst (λ (n : ℕ). b ≤ n) (sym (boot_more (newest places p) known)) shown) ]

  pub tables_more : (firm : Option ℕ) (log told : List ℕ) → TablesOk set family → Fits set family firm log told next → TablesOk set (family ++ next ∷ [])
  tables_more firm log told ok fits = record {
    marks = λ i j h hj. elim (which j hj) [
      | inl old ↦
          let hi : i < length family = omega arith in
          ap (λ (t : Version). mark_below t.mark (table_at (family ++ next ∷ []) j).mark) (old_table i hi)
          ∙ ap (λ (t : Version). mark_below (table_at family i).mark t.mark) (old_table j old) ∙ ok.marks i j h old
      | inr e ↦
          let hi : i < length family = omega arith in
          ap (λ (t : Version). mark_below t.mark (table_at (family ++ next ∷ []) j).mark) (old_table i hi)
          ∙ ap (λ (t : Version). mark_below (table_at family i).mark t.mark) (new_at j e) ∙ fits.mark i hi
    ];
    made = λ i h. elim (which i h) [
      | inl old ↦
          subst (λ (t : Version). MadeFrom (family ++ next ∷ []) i t t.parent) (sym (old_table i old))
          (made_more i (table_at family i) (table_at family i).parent (omega arith) (ok.made i old))
      | inr e ↦
          subst (λ (t : Version). MadeFrom (family ++ next ∷ []) i t t.parent) (sym (new_at i e))
          (subst (λ (k : ℕ). MadeFrom (family ++ next ∷ []) k next next.parent) (sym e) (made_more (length family) next next.parent (omega arith) fits.made))
    ];
    lists = λ i h. elim (which i h) [
      | inl old ↦ subst (λ (t : Version). ListsOk set t.lists) (sym (old_table i old)) (ok.lists i old)
      | inr e ↦ subst (λ (t : Version). ListsOk set t.lists) (sym (new_at i e)) fits.lists
    ];
  }

  pub all_common_more : (firm : Option ℕ) (log told : List ℕ) → ((f : ℕ) → firm ≡ Some f → f < length family) → AllCommon family firm → Fits set family firm log told next → AllCommon (family ++ next ∷ []) firm
  all_common_more firm log told firm_in ok fits i j hi hj li lj =
      let at : (a b : Version) → table_at (family ++ next ∷ []) i ≡ a → table_at (family ++ next ∷ []) j ≡ b → IsCommon family firm a.lists b.lists → IsCommon (family ++ next ∷ []) firm (lists_at (family ++ next ∷ []) i) (lists_at (family ++ next ∷ []) j)
      = λ a b ea eb c. subst (λ (s : Version). IsCommon (family ++ next ∷ []) firm s.lists (lists_at (family ++ next ∷ []) j)) (sym ea)
      (subst (λ (s : Version). IsCommon (family ++ next ∷ []) firm a.lists s.lists) (sym eb) (common_more firm a.lists b.lists firm_in c)) in
      elim (which i hi) [
        | inl oi ↦ elim (which j hj) [
          | inl oj ↦ at (table_at family i) (table_at family j) (old_table i oi) (old_table j oj) (ok i j oi oj li lj)
          | inr ej ↦ at (table_at family i) next (old_table i oi) (new_at j ej) (fits.before i oi li)
        ]
        | inr ei ↦ elim (which j hj) [
          | inl oj ↦ at next (table_at family j) (new_at i ei) (old_table j oj) (fits.behind j oj lj)
          | inr ej ↦ at next next (new_at i ei) (new_at j ej) fits.itself
        ]
      ]

  pub plans_more : (firm : Option ℕ) (log told : List ℕ) → ((f : ℕ) → firm ≡ Some f → f < length family) → PlansOk family firm log told → Fits set family firm log told next → PlansOk (family ++ next ∷ []) firm log told
  plans_more firm log told firm_in ok fits = record {
    issued = λ i h live. elim (which i h) [
      | inl old ↦ subst (λ (t : Version). IsPrefix t.plan log) (sym (old_table i old)) (ok.issued i old live)
      | inr e ↦ subst (λ (t : Version). IsPrefix t.plan log) (sym (new_at i e)) fits.issued
    ];
    holds_told = λ i h live. elim (which i h) [
      | inl old ↦ subst (λ (t : Version). HasAll told t.plan) (sym (old_table i old)) (ok.holds_told i old live)
      | inr e ↦ subst (λ (t : Version). HasAll told t.plan) (sym (new_at i e)) fits.holds_told
    ];
    descends = λ f i e le h.
        subst (λ (s : Version). IsPrefix s.plan (plan_at (family ++ next ∷ []) i)) (sym (old_table f (firm_in f e)))
        (elim (which i h) [
          | inl old ↦ subst (λ (t : Version). IsPrefix (plan_at family f) t.plan) (sym (old_table i old)) (ok.descends f i e le old)
          | inr at ↦ subst (λ (t : Version). IsPrefix (plan_at family f) t.plan) (sym (new_at i at)) (fits.descends f e)
        ]);
    nothing = ok.nothing;
  }

  pub places_more : (firm : Option ℕ) (places : List SpotState) (deleted : Option Spot) (log told : List ℕ)
      → TablesOk set family → PlacesOk family firm places deleted → Fits set family firm log told next → deleted ≡ None → (length places ≡ 0 → ⊥)
      → ((i : ℕ) (read knows : Spot → Bool) → i < length family → IsLive firm i → is_read (table_at family i) read knows ≡ true
      → (next.mark.boot ≤ boot_at family i) ⊎ KnownIn family places read next.mark.boot)
      → PlacesOk (family ++ next ∷ []) firm places deleted
  places_more firm places deleted log told tables ok fits there used numbers =
      let firm_old : (f : ℕ) → firm ≡ Some f → table_at (family ++ next ∷ []) f ≡ table_at family f = λ f e. old_table f (ok.firm_in f e) in
      record {
        firm_in = λ f e. let h = ok.firm_in f e in omega (arith, longer, h);
        shows = λ p j e. let h = ok.shows p j e in omega (arith, longer, h);
        beaten = λ f i e h read knows r.
            let hi : i < length family = let hf = ok.firm_in f e in omega (arith, h, hf) in
            let b = ok.beaten f i e h read knows (subst (λ (t : Version). is_read t read knows ≡ true) (old_table i hi) r) in
            record {
              place = b.place;
              was_read = b.was_read;
              named = subst (λ (t : Version). is_named t.lists b.place ≡ true) (sym (old_table i hi)) b.named;
              late = b.late;
              above = b.above;
            };
        numbers = λ i u read knows hi hu live r. elim (which i hi) [
          | inl oi ↦
              let reads = subst (λ (t : Version). is_read t read knows ≡ true) (old_table i oi) r in
              let bi = ap (λ (t : Version). t.mark.boot) (old_table i oi) in
              elim (which u hu) [
                | inl ou ↦
                    let bu = ap (λ (t : Version). t.mark.boot) (old_table u ou) in
                    elim (ok.numbers i u read knows oi ou live reads) [
                      | inl less ↦ inl (omega (arith, bi, bu, less))
                      | inr known ↦ inr (known.0, known.1, subst (λ (b : ℕ). Knows (family ++ next ∷ []) places known.0 b) (sym bu) (knows_more places known.0 (boot_at family u) (ok.shows known.0) known.2))
                    ]
                | inr eu ↦
                    let bu = ap (λ (t : Version). t.mark.boot) (new_at u eu) in
                    elim (numbers i read knows oi live reads) [
                      | inl less ↦ inl (omega (arith, bi, bu, less))
                      | inr known ↦ inr (known.0, known.1, subst (λ (b : ℕ). Knows (family ++ next ∷ []) places known.0 b) (sym bu) (knows_more places known.0 next.mark.boot (ok.shows known.0) known.2))
                    ]
              ]
          | inr ei ↦
              let bi = ap (λ (t : Version). t.mark.boot) (new_at i ei) in
              elim (which u hu) [
                | inl ou ↦
                    let bu = ap (λ (t : Version). t.mark.boot) (old_table u ou) in
                    inl (omega (arith, bi, bu, boot_rises (table_at family u).mark next.mark (fits.mark u ou)))
                | inr eu ↦ let bu = ap (λ (t : Version). t.mark.boot) (new_at u eu) in inl (omega (arith, bi, bu))
              ]
        ];
        listed = λ f p e has held. ok.listed f p e (subst (λ (t : Version). is_in (last_list t.lists) p ≡ true) (firm_old f e) has) held;
        listed_in = λ p e.
            let l = ok.listed_in p e in
            (l.0, l.1, subst (λ (t : Version). is_in (last_list t.lists) p ≡ true) (sym (firm_old l.0 l.1)) l.2);
        dropped = ok.dropped;
        low = ok.low;
        covered = λ f e still.
            let c = ok.covered f e still in (
              c.0,
              subst (λ (t : Version). is_written t c.0 ≡ true) (sym (firm_old f e)) c.1,
              λ p took.
                  let k = c.2 p took in
                  record { held = k.held; table = k.table; shows = k.shows; above = k.above; named = subst (λ (t : Version). is_named t.lists p ≡ true) (sym (firm_old f e)) k.named },
            );
        gone = λ p e. absurd (none_some p (sym there ∙ e));
        unused = λ e. absurd (used e);
      }
