-- How a scan over the calls finds the values that a crash may leave in one block.
use Rattle.std.proofs.Common.{◌≡◌, ◌≢◌, ℕ, ◌+◌, ◌<◌, ◌≤◌, ◌%◌, true, false, cond, List, [], ◌∷◌, ◌++◌, length, take, get_or, refl, sym, ◌∙◌, ap, subst, inl, inr, arith}
use Rattle.std.proofs.lemmas.List.{length-reverse, reverse-append, get_or_push, get_or_append_left, take_more, take_all}
use Rattle.std.proofs.lemmas.Bool.{cases_eq, cond-true, cond-false}
use Rattle.std.specs.Prelude.{reverse}
use Rattle.mdv_shelf.specs.Tale.{Tale, Start, Begun, Then, Call, last, values, writes, written, syncs}
use Rattle.mdv_shelf.specs.MemHistory.{call_of, continued, picked, ScansTo}
use Rattle.mdv_shelf.specs.declared.mem_shelf.disk.MemCall.{MemCall}
use Rattle.mdv_shelf.proofs.MemLaws.{continued-push}

pub values-then : (t : Tale) (c : Call) (drive block : ℕ) → values (Then t c) drive block ≡ cond (writes c drive block) (written c block ∷ values t drive block) (cond (syncs c drive) (last t drive block ∷ []) (values t drive block))
unfolding values
values-then t c drive block = refl

pub last-then : (t : Tale) (c : Call) (drive block : ℕ) → last (Then t c) drive block ≡ cond (writes c drive block) (written c block) (last t drive block)
unfolding last
last-then t c drive block = refl

module _ (newest : List ℕ) (count : ℕ) (found : List ℕ) (wanted : ℕ) (vs : List (List ℕ)) (v : List ℕ) (before : ScansTo newest count found wanted vs v) where
  -- one value more
  more : (w after : List ℕ) → (count ≡ wanted → after ≡ w) → (count ≢ wanted → after ≡ found) → ScansTo w (count + 1) after wanted (w ∷ vs) w
  more w after hit missed = record {
    is_last = refl;
    counted = omega (arith, before.counted);
    is_found = λ lt. elim (cases_eq count wanted) [
      | inl same ↦ hit same ∙ sym (ap (λ (l : List (List ℕ)). get_or l wanted []) (reverse-append (w ∷ []) vs) ∙ get_or_push (reverse vs) w [] wanted (length-reverse vs ∙ sym before.counted ∙ same))
      | inr other ↦ missed other ∙ before.is_found (omega arith)
          ∙ sym (ap (λ (l : List (List ℕ)). get_or l wanted []) (reverse-append (w ∷ []) vs) ∙ get_or_append_left (reverse vs) (w ∷ []) [] wanted (omega (arith, before.counted, length-reverse vs)))
    ];
  }

  -- a sync leaves the last value alone
  one : ScansTo newest 1 newest wanted (v ∷ []) v
  one = record {
    is_last = before.is_last;
    counted = refl;
    is_found = λ lt. let first : 0 ≡ wanted = omega arith in before.is_last ∙ ap (λ (k : ℕ). get_or (v ∷ []) k []) first;
  }

module _ (newest : List ℕ) (count : ℕ) (found : List ℕ) (wanted drive block : ℕ) (c : Call) (t : Tale) (before : ScansTo newest count found wanted (values t drive block) (last t drive block)) where
  pub scans_write : (w after : List ℕ) → writes c drive block ≡ true → written c block ≡ w → (count ≡ wanted → after ≡ w) → (count ≢ wanted → after ≡ found)
      → ScansTo w (count + 1) after wanted (values (Then t c) drive block) (last (Then t c) drive block)
  scans_write w after wrote is hit missed =
      let here : values (Then t c) drive block ≡ w ∷ values t drive block = values-then t c drive block ∙ cond-true (writes c drive block) _ _ wrote ∙ ap (λ (x : List ℕ). x ∷ values t drive block) is in
      let latest : last (Then t c) drive block ≡ w = last-then t c drive block ∙ cond-true (writes c drive block) _ _ wrote ∙ is in
      subst (λ (l : List (List ℕ)). ScansTo w (count + 1) after wanted l (last (Then t c) drive block)) (sym here)
      (subst (λ (x : List ℕ). ScansTo w (count + 1) after wanted (w ∷ values t drive block) x) (sym latest) (more newest count found wanted (values t drive block) (last t drive block) before w after hit missed))

  pub scans_sync : writes c drive block ≡ false → syncs c drive ≡ true → ScansTo newest 1 newest wanted (values (Then t c) drive block) (last (Then t c) drive block)
  scans_sync wrote synced =
      let here : values (Then t c) drive block ≡ last t drive block ∷ [] = values-then t c drive block ∙ cond-false (writes c drive block) _ _ wrote ∙ cond-true (syncs c drive) _ _ synced in
      let latest : last (Then t c) drive block ≡ last t drive block = last-then t c drive block ∙ cond-false (writes c drive block) _ _ wrote in
      subst (λ (l : List (List ℕ)). ScansTo newest 1 newest wanted l (last (Then t c) drive block)) (sym here)
      (subst (λ (x : List ℕ). ScansTo newest 1 newest wanted (last t drive block ∷ []) x) (sym latest) (one newest count found wanted (values t drive block) (last t drive block) before))

  pub scans_other : writes c drive block ≡ false → syncs c drive ≡ false → ScansTo newest count found wanted (values (Then t c) drive block) (last (Then t c) drive block)
  scans_other wrote synced =
      let here : values (Then t c) drive block ≡ values t drive block = values-then t c drive block ∙ cond-false (writes c drive block) _ _ wrote ∙ cond-false (syncs c drive) _ _ synced in
      let latest : last (Then t c) drive block ≡ last t drive block = last-then t c drive block ∙ cond-false (writes c drive block) _ _ wrote in
      subst (λ (l : List (List ℕ)). ScansTo newest count found wanted l (last (Then t c) drive block)) (sym here)
      (subst (λ (x : List ℕ). ScansTo newest count found wanted (values t drive block) x) (sym latest) before)

-- at the start each block has one value
pub scans_start : (s : Start) (drive block wanted : ℕ) (start : List ℕ) → s.block drive block ≡ start → ScansTo start 1 start wanted (values (continued (Begun s) []) drive block) (last (continued (Begun s) []) drive block)
unfolding continued values last
scans_start s drive block wanted start is = record {
  is_last = sym is;
  counted = refl;
  is_found = λ lt. let first : 0 ≡ wanted = omega arith in sym is ∙ ap (λ (k : ℕ). get_or (s.block drive block ∷ []) k []) first;
}

-- a loop over the calls goes on by one
pub continued-more : (t : Tale) (cs : List MemCall) (i : ℕ) (c : MemCall) → i < length cs → c ≡ get_or cs i c → continued t (take (i + 1) cs) ≡ Then (continued t (take i cs)) (call_of c)
continued-more t cs i c lt is =
    ap (λ (l : List MemCall). continued t l) (take_more cs i c lt ∙ ap (λ (x : MemCall). take i cs ++ x ∷ []) (sym is)) ∙ continued-push t (take i cs) c

-- the whole of the calls
pub continued_all : (t : Tale) (cs : List MemCall) (i : ℕ) → length cs ≤ i → continued t (take i cs) ≡ continued t cs
continued_all t cs i le = ap (λ (l : List MemCall). continued t l) (take_all i cs le)

-- the value that is picked is the one of that number
pub picks : (s : Start) (cs : List MemCall) (drive block number wanted count : ℕ) (newest found : List ℕ)
    → ScansTo newest count found wanted (values (continued (Begun s) cs) drive block) (last (continued (Begun s) cs) drive block)
    → wanted ≡ number % count → 0 < count → found ≡ picked (values (continued (Begun s) cs) drive block) number
picks s cs drive block number wanted count newest found scans is some =
    let within : wanted < count = omega (arith, is, some) in
    let same : wanted ≡ number % length (values (continued (Begun s) cs) drive block) = is ∙ ap (λ (n : ℕ). number % n) scans.counted in
    scans.is_found within ∙ ap (λ (k : ℕ). get_or (reverse (values (continued (Begun s) cs) drive block)) k []) same
