-- What a look makes of the master, the claim and the gates that it read.
use Rattle.std.proofs.Common.{◌≡◌, ◌↔◌, ℕ, ◌+◌, ◌<◌, ◌≤◌, ◌-◌, min, Bool, true, false, List, [], length, slice_index_or, Option, Some, None, IfSome, MatchOption, is_some, is_none, refl, sym, ◌∙◌, ap, subst, arith}
use Rattle.mdv_base.specs.Causes.{Failures}
use Rattle.mdv_replica.specs.Below.{Flags, Place}
use Rattle.mdv_replica.specs.declared.forms.Master.{Master}
use Rattle.mdv_replica.specs.declared.forms.Gate.{Gate}
use Rattle.mdv_replica.specs.declared.looking.ClaimAndGates.{ClaimAndGates}
use Rattle.mdv_replica.specs.declared.looking.Seen.{Seen}
use Rattle.mdv_replica.specs.declared.replica.Head.{Head}
use Rattle.mdv_replica.specs.declared.replica.PlaceAt.{PlaceAt}
use Rattle.mdv_replica.specs.Replica.{IsHead, with_blocks}
use Rattle.mdv_replica.specs.Seen.{IsMasterAt, AreClaimAndGates, HasClaimAndGates, HasLookCause, IsLook, head_flags}

abbrev pub head_with : Master → ClaimAndGates → Head
head_with master rest = record { master = master; claim = rest.claim; first = rest.first; second = rest.second }

-- what is told of the place and the head, by what was read
abbrev pub IsPlaceFor : PlaceAt → Option Master → Place → Type 0
IsPlaceFor at master place = MatchOption master (place ≡ at.place) (λ m. place ≡ (with_blocks at m.blocks).place)

abbrev pub IsHeadFor : Option Master → Option ClaimAndGates → Option Head → Type 0
IsHeadFor master rest head = MatchOption master (head ≡ None) (λ m. MatchOption rest (head ≡ None) (λ r. head ≡ Some (head_with m r)))

module _ (at : PlaceAt) (size : ℕ) (content : ℕ → List ℕ) where
  -- the drive has claim and gates, and they are these
  abbrev pub Has : ClaimAndGates → Type 0
  Has r = (at.first + 4 ≤ size) × AreClaimAndGates (content (at.first + 1)) (content (at.first + 2)) (content (at.first + 3)) r.claim r.first r.second

  -- a head is a master with claim and gates behind it
  head_made : (m : Master) (r : ClaimAndGates) → IsMasterAt at size (content at.first) m → Has r → IsHead at size content (head_with m r)
  head_made m r here has = record {
    master = here.form;
    master_block = here.spelled;
    lies = here.lies;
    claim = has.1.claim_form;
    claim_block = has.1.claim_block;
    first = has.1.first_form;
    first_block = has.1.first_block;
    second = has.1.second_form;
    second_block = has.1.second_block;
  }

  head_has_master : (head : Head) → IsHead at size content head → IsMasterAt at size (content at.first) head.master
  head_has_master head is = record { form = is.master; spelled = is.master_block; lies = is.lies }

  head_has : (head : Head) → IsHead at size content head → Has (record { claim = head.claim; first = head.first; second = head.second })
  head_has head is =
      let least = is.lies.least in
      let within = is.lies.within in (
        omega arith,
        record {
          claim_form = is.claim;
          claim_block = is.claim_block;
          first_form = is.first;
          first_block = is.first_block;
          second_form = is.second;
          second_block = is.second_block;
        },
      )

  module _ (seen : Seen) where
    -- the head, by what was read
    head_is : (master : Option Master) (rest : Option ClaimAndGates)
        → IfSome master (IsMasterAt at size (content at.first)) → ((m : Master) → IsMasterAt at size (content at.first) m → master ≡ Some m)
        → IfSome rest Has → ((r : ClaimAndGates) → Has r → rest ≡ Some r)
        → IsHeadFor master rest seen.head → (spelled : Head) → (seen.head ≡ Some spelled) ↔ IsHead at size content spelled
    head_is None rest is_master only_master has only_rest none spelled = (λ is. absurd (cc (sym none ∙ is)), λ is. absurd (cc (only_master spelled.master (head_has_master spelled is))))
    head_is (Some m) None is_master only_master has only_rest none spelled = (λ is. absurd (cc (sym none ∙ is)), λ is. absurd (cc (only_rest _ (head_has spelled is))))
    head_is (Some m) (Some r) is_master only_master has only_rest made spelled = (
      λ is. (let same : head_with m r ≡ spelled = cc (sym made ∙ is) in subst (IsHead at size content) same (head_made m r is_master has)),
      λ is.
          let master : m ≡ spelled.master = cc (only_master spelled.master (head_has_master spelled is)) in
          let rest : ◌≡◌ {A = ClaimAndGates} r (record { claim = spelled.claim; first = spelled.first; second = spelled.second }) = cc (only_rest _ (head_has spelled is)) in
          made ∙ ap (λ (x : Master). Some (head_with x r)) master ∙ ap (λ (x : ClaimAndGates). Some (head_with spelled.master x)) rest,
    )

    located_is : (master : Option Master) → IfSome master (IsMasterAt at size (content at.first)) → ((m : Master) → IsMasterAt at size (content at.first) m → master ≡ Some m)
        → (is_some master ≡ true) ↔ ((m : Master) × IsMasterAt at size (content at.first) m)
    located_is None is_master only_master = (λ is. absurd (cc (is)), λ here. absurd (cc (only_master here.0 here.1)))
    located_is (Some m) is_master only_master = (λ is. (m, is_master), λ here. refl)

    rest_is : (rest : Option ClaimAndGates) → IfSome rest Has → ((r : ClaimAndGates) → Has r → rest ≡ Some r) → (is_none rest ≡ false) ↔ HasClaimAndGates at size content
    rest_is None has only_rest = (λ is. absurd (cc (is)), λ here. absurd (cc (only_rest (record { claim = here.claim; first = here.first; second = here.second }) (here.within, here.are))))
    rest_is (Some r) has only_rest = (λ is. record { within = has.0; claim = r.claim; first = r.first; second = r.second; are = has.1 }, λ here. refl)

    sized_is : (master : Option Master) → ((m : Master) → IsMasterAt at size (content at.first) m → master ≡ Some m) → IsPlaceFor at master seen.place
        → (m : Master) → IsMasterAt at size (content at.first) m → seen.place ≡ (with_blocks at m.blocks).place
    sized_is None only_master place m here = absurd (cc (only_master m here))
    sized_is (Some n) only_master place m here =
        let same : n ≡ m = cc (only_master m here) in place ∙ ap (λ (x : Master). (with_blocks at x.blocks).place) same

    unsized_is : (master : Option Master) → IsPlaceFor at master seen.place → is_some master ≡ false → seen.place ≡ at.place
    unsized_is None place not = place
    unsized_is (Some m) place not = absurd (cc (not))

    pub look_made : (master : Option Master) (rest : Option ClaimAndGates)
        → IfSome master (IsMasterAt at size (content at.first)) → ((m : Master) → IsMasterAt at size (content at.first) m → master ≡ Some m)
        → IfSome rest Has → ((r : ClaimAndGates) → Has r → rest ≡ Some r)
        → seen.flags ≡ head_flags (is_some master) (is_none rest) → IsPlaceFor at master seen.place → IsHeadFor master rest seen.head → IsLook at size content seen
    look_made master rest is_master only_master has only_rest flags place head =
        let located : seen.flags.located ≡ is_some master = ap (λ (f : Flags). f.located) flags in
        let form_fault : seen.flags.form_fault ≡ is_none rest = ap (λ (f : Flags). f.form_fault) flags in
        record {
          located = subst (λ (b : Bool). (b ≡ true) ↔ ((m : Master) × IsMasterAt at size (content at.first) m)) (sym located) (located_is master is_master only_master);
          formed = subst (λ (b : Bool). (b ≡ false) ↔ HasClaimAndGates at size content) (sym form_fault) (rest_is rest has only_rest);
          letters = flags ∙ ap (λ (b : Bool). head_flags b (is_none rest)) (sym located) ∙ ap (head_flags seen.flags.located) (sym form_fault);
          sized = sized_is master only_master place;
          unsized = λ not. unsized_is master place (sym located ∙ not);
          head = head_is master rest is_master only_master has only_rest head;
        }

-- from the blocks that a read gave to the drive's
module _ (at : PlaceAt) (size : ℕ) (content : ℕ → List ℕ) (blocks : List (List ℕ)) (within : at.first < size) (count : length blocks ≡ min 4 (size - at.first))
    (are : (k : ℕ) → k < length blocks → slice_index_or blocks k [] ≡ content (at.first + k)) where
  zeroth : slice_index_or blocks 0 [] ≡ content at.first
  zeroth = are 0 (omega arith) ∙ ap content (omega arith)

  pub master_read : (master : Option Master) → IfSome master (IsMasterAt at size (slice_index_or blocks 0 [])) → IfSome master (IsMasterAt at size (content at.first))
  master_read master is = subst (λ (b : List ℕ). IfSome master (IsMasterAt at size b)) zeroth is

  pub master_only : (master : Option Master) → ((m : Master) → IsMasterAt at size (slice_index_or blocks 0 []) m → master ≡ Some m) → (m : Master) → IsMasterAt at size (content at.first) m → master ≡ Some m
  master_only master only m here = only m (subst (λ (b : List ℕ). IsMasterAt at size b m) (sym zeroth) here)

  rest_carried : (r : ClaimAndGates) → (length blocks ≡ 4) × AreClaimAndGates (slice_index_or blocks 1 []) (slice_index_or blocks 2 []) (slice_index_or blocks 3 []) r.claim r.first r.second → Has at size content r
  rest_carried r is = (
    omega arith,
    record {
      claim_form = is.1.claim_form;
      claim_block = sym (are 1 (omega arith)) ∙ is.1.claim_block;
      first_form = is.1.first_form;
      first_block = sym (are 2 (omega arith)) ∙ is.1.first_block;
      second_form = is.1.second_form;
      second_block = sym (are 3 (omega arith)) ∙ is.1.second_block;
    },
  )

  pub rest_read : (rest : Option ClaimAndGates)
      → IfSome rest (λ r. (length blocks ≡ 4) × AreClaimAndGates (slice_index_or blocks 1 []) (slice_index_or blocks 2 []) (slice_index_or blocks 3 []) r.claim r.first r.second) → IfSome rest (Has at size content)
  rest_read None is = tt
  rest_read (Some r) is = rest_carried r is

  pub rest_only : (rest : Option ClaimAndGates)
      → ((claim : ℕ) (first second : Gate) → length blocks ≡ 4 → AreClaimAndGates (slice_index_or blocks 1 []) (slice_index_or blocks 2 []) (slice_index_or blocks 3 []) claim first second → rest ≡ Some (record { claim = claim; first = first; second = second }))
      → (r : ClaimAndGates) → Has at size content r → rest ≡ Some r
  rest_only rest only r has =
      let enough = has.0 in
      only r.claim r.first r.second (omega arith) (record {
        claim_form = has.1.claim_form;
        claim_block = are 1 (omega arith) ∙ has.1.claim_block;
        first_form = has.1.first_form;
        first_block = are 2 (omega arith) ∙ has.1.first_block;
        second_form = has.1.second_form;
        second_block = are 3 (omega arith) ∙ has.1.second_block;
      })

-- contents of which the blocks from the place's first one on are these
abbrev pub contents_of : ℕ → List (List ℕ) → ℕ → List ℕ
contents_of first blocks block = slice_index_or blocks (block - first) []

pub contents_are : (first : ℕ) (blocks : List (List ℕ)) (k : ℕ) → k < length blocks → slice_index_or blocks k [] ≡ contents_of first blocks (first + k)
contents_are first blocks k lt = ap (λ (i : ℕ). slice_index_or blocks i []) (omega arith)

-- a look whose read didn't fail tells of no failed read
pub look_calm : (at : PlaceAt) (size : ℕ) (content : ℕ → List ℕ) (seen : Seen) (failures : Failures) → IsLook at size content seen → failures.none → HasLookCause failures seen.flags.read_error
look_calm at size content seen failures look calm = subst (λ (f : Flags). HasLookCause failures f.read_error) (sym look.letters) calm
