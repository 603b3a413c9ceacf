-- The blocks of a body and the bytes of its text.
use Rattle.std.proofs.Common.{◌≡◌, ℕ, ◌+◌, ◌*◌, ◌≤◌, ◌<◌, List, [], ◌∷◌, ◌++◌, length, take, refl, sym, ◌∙◌, ap, subst, slice_index_or, Option, Some, None, Result, Ok, Err, IfOk, arith}
use Rattle.std.specs.List.{concat, flat_map}
use Rattle.mdv_survey.specs.Below.{Geometry, IsTextOf, PlaceAt, Slot, Table, body_at, slot_blocks, text_of}
use Rattle.mdv_replica.proofs.Bodies.{take-bytes_of_written}
use Rattle.mdv_survey.specs.declared.body.ReadFault.{ReadFault}
use Rattle.mdv_survey.specs.Slots.{IsFoundText, IsRead}

concat_flat : (blocks : List (List ℕ)) → concat blocks ≡ flat_map (λ x. x) blocks
concat_flat [] = refl
concat_flat (x ∷ xs) = ap (λ (l : List ℕ). x ++ l) (concat_flat xs)

-- what was read of a body
module _ (g : Geometry) (at : PlaceAt) (slot : Slot) (bytes : ℕ) (body : List (List ℕ)) (size : length (flat_map (λ (x : List ℕ). x) body) ≡ 512 * length body) (within : bytes ≤ 512 * length body) where
  text_read : (content : ℕ → List ℕ) → length body ≤ slot_blocks at.place.blocks → ((k : ℕ) → k < length body → slice_index_or body k [] ≡ content (body_at at slot + k)) → text_of at slot bytes content ≡ take bytes (flat_map (λ x. x) body)
  text_read content fits gave =
      take-bytes_of_written content (body_at at slot) (slot_blocks at.place.blocks) bytes body fits (omega (arith, ap length (concat_flat body))) (λ k lt. sym (gave k lt)) ∙ ap (take bytes) (concat_flat body)

  pub read_is : (answer : Result (Option Table) ReadFault) (content : ℕ → List ℕ) → length body ≤ slot_blocks at.place.blocks → ((k : ℕ) → k < length body → slice_index_or body k [] ≡ content (body_at at slot + k))
      → IfOk answer (IsFoundText g (take bytes (flat_map (λ x. x) body))) → IfOk answer (IsRead g at slot bytes content)
  read_is (Ok None) content fits gave none = λ table in_room is. none table (subst (λ (x : List ℕ). IsTextOf g x table) (text_read content fits gave) is)
  read_is (Ok (Some table)) content fits gave is = (omega (arith, fits, within), subst (λ (x : List ℕ). IsTextOf g x table) (sym (text_read content fits gave)) is)
  read_is (Err fault) content fits gave is = tt
