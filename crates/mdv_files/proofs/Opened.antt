-- One more drive behind those that were opened.
use Rattle.std.proofs.Common.{◌≡◌, ◌⊎◌, ◌<◌, ◌+◌, ℕ, suc, zero, refl, sym, ◌∙◌, ap, inl, inr, List, [], ◌∷◌, ◌++◌, length, map, take, get_or, Some, arith}
use Rattle.std.proofs.lemmas.List.{map-append}
use Rattle.std.proofs.Math.Seq.{take-suc}
use Rattle.mdv_name.specs.declared.drive_line.DriveLine.{DriveLine}
use Rattle.mdv_files.specs.declared.disk.FileId.{FileId}
use Rattle.mdv_files.specs.declared.image.Image.{Image}
use Rattle.mdv_files.specs.Image.{id_of}
use Rattle.mdv_files.specs.Opening.{HasFileAt, HasNoFile, HaveOwnFiles, IsFresh, lost_one, lost_count}

pub lost_push : (images : List Image) (image : Image) → lost_count (images ++ image ∷ []) ≡ lost_count images + lost_one image.state
lost_push [] image = omega arith
lost_push (x ∷ xs) image = omega (arith, lost_push xs image)

at_push : (images : List Image) (image : Image) (i : ℕ) (id : FileId) → HasFileAt (images ++ image ∷ []) i id → HasFileAt images i id ⊎ ((i ≡ length images) × (id_of image ≡ Some id))
at_push [] image zero id at = inr (refl, cc)
at_push [] image (suc i) id at = cc
at_push (x ∷ xs) image zero id at = inl at
at_push (x ∷ xs) image (suc i) id at = later (at_push xs image i id at)
  where
    later : HasFileAt xs i id ⊎ ((i ≡ length xs) × (id_of image ≡ Some id)) → HasFileAt (x ∷ xs) (suc i) id ⊎ ((suc i ≡ suc (length xs)) × (id_of image ≡ Some id))
    later (inl front) = inl front
    later (inr last) = inr (ap suc last.0, last.1)

none_at : (images : List Image) (id : FileId) → HasNoFile images id → (i : ℕ) → HasFileAt images i id → ⊥
none_at [] id none i at = cc
none_at (x ∷ xs) id none zero at = none zero x (omega arith) cc
none_at (x ∷ xs) id none (suc i) at = none_at xs id (λ n y below. none (suc n) y (omega (arith, below))) i at

pub own_push : (images : List Image) (image : Image) → HaveOwnFiles images → IsFresh images image → HaveOwnFiles (images ++ image ∷ [])
own_push images image own fresh i k id at_i at_k = both (at_push images image i id at_i) (at_push images image k id at_k)
  where
    both : HasFileAt images i id ⊎ ((i ≡ length images) × (id_of image ≡ Some id)) → HasFileAt images k id ⊎ ((k ≡ length images) × (id_of image ≡ Some id)) → i ≡ k
    both (inl front_i) (inl front_k) = own i k id front_i front_k
    both (inl front_i) (inr last_k) = absurd (none_at images id (fresh id last_k.1) i front_i)
    both (inr last_i) (inl front_k) = absurd (none_at images id (fresh id last_i.1) k front_k)
    both (inr last_i) (inr last_k) = last_i.0 ∙ sym last_k.0

-- What is the same of each image and its line is so of one more.
pub lines_push : {Y : Type 0} (of_image : Image → Y) (of_line : DriveLine → Y) (images : List Image) (image : Image) (drives : List DriveLine) (i : ℕ) (line : DriveLine) → map of_image images ≡ map of_line (take i drives) → i < length drives → line ≡ get_or drives i line → of_image image ≡ of_line line → map of_image (images ++ image ∷ []) ≡ map of_line (take (i + 1) drives)
lines_push of_image of_line images image drives i line same below is one =
    let next : suc i ≡ i + 1 = omega arith in
    map-append of_image images (image ∷ [])
    ∙ ap (λ l. l ++ of_image image ∷ []) same
    ∙ ap (λ y. map of_line (take i drives) ++ y ∷ []) (one ∙ ap of_line is)
    ∙ sym (map-append of_line (take i drives) (get_or drives i line ∷ []))
    ∙ ap (map of_line) (sym (take-suc drives i line below))
    ∙ ap (λ (n : ℕ). map of_line (take n drives)) next
