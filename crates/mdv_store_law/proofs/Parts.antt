-- Laws of lists with some of their items left out.
use Rattle.std.proofs.Common.{inl, inr, List, [], ◌∷◌, ◌++◌, map, refl, sym, ◌∙◌, ap, subst}
use Rattle.mdv_store_law.specs.Machine.{AreAll}
use Rattle.mdv_store_law.specs.Part.{IsPart}

pub part_itself : {A : Type 0} (whole : List A) → IsPart whole whole
part_itself [] = tt
part_itself (x ∷ whole) = inl (refl, part_itself whole)

-- more stands before the whole, or behind it
pub part_before : {A : Type 0} (part more whole : List A) → IsPart part whole → IsPart part (more ++ whole)
part_before [] more whole is = tt
part_before (x ∷ part) [] whole is = is
part_before (x ∷ part) (y ∷ more) whole is = inr (part_before (x ∷ part) more whole is)

pub part_front : {A : Type 0} (part more : List A) → IsPart part (part ++ more)
part_front [] more = tt
part_front (x ∷ part) more = inl (refl, part_front part more)

pub part_more : {A : Type 0} (part whole other more : List A) → IsPart part whole → IsPart other more → IsPart (part ++ other) (whole ++ more)
part_more [] whole other more one is = part_before other whole more is
part_more (x ∷ part) [] other more one is = absurd one
part_more (x ∷ part) (y ∷ whole) other more (inl one) is = inl (one.0, part_more part whole other more one.1 is)
part_more (x ∷ part) (y ∷ whole) other more (inr one) is = inr (part_more (x ∷ part) whole other more one is)

pub part_of_part : {A : Type 0} (a b c : List A) → IsPart a b → IsPart b c → IsPart a c
part_of_part [] b c one other = tt
part_of_part (x ∷ a) [] c one other = absurd one
part_of_part (x ∷ a) (y ∷ b) [] one other = absurd other
part_of_part (x ∷ a) (y ∷ b) (z ∷ c) (inl one) (inl other) = inl (one.0 ∙ other.0, part_of_part a b c one.1 other.1)
part_of_part (x ∷ a) (y ∷ b) (z ∷ c) (inr one) (inl other) = inr (part_of_part (x ∷ a) b c one other.1)
part_of_part (x ∷ a) (y ∷ b) (z ∷ c) one (inr other) = inr (part_of_part (x ∷ a) (y ∷ b) c one other)

pub part_mapped : {A B : Type 0} (f : A → B) (part whole : List A) → IsPart part whole → IsPart (map f part) (map f whole)
part_mapped f [] whole is = tt
part_mapped f (x ∷ part) [] is = absurd is
part_mapped f (x ∷ part) (y ∷ whole) (inl is) = inl (ap f is.0, part_mapped f part whole is.1)
part_mapped f (x ∷ part) (y ∷ whole) (inr is) = inr (part_mapped f (x ∷ part) whole is)

-- what each item is, each of a part is
pub part_all : {A : Type 0} (Is : A → Type 0) (part whole : List A) → IsPart part whole → AreAll Is whole → AreAll Is part
part_all Is [] whole is are = tt
part_all Is (x ∷ part) [] is are = absurd is
part_all Is (x ∷ part) (y ∷ whole) (inl is) are = (subst Is (sym is.0) are.0, part_all Is part whole is.1 are.1)
part_all Is (x ∷ part) (y ∷ whole) (inr is) are = part_all Is (x ∷ part) whole is are.1
