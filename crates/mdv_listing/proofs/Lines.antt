-- Each line of a listing is one that ends no reply.
use Rattle.std.proofs.Common.{◌≡◌, ◌==◌, ℕ, true, false, Option, None, Some, refl, sym, ◌∙◌, ap, List, [], ◌∷◌, ◌++◌, get_or, map, append_assoc, append-nil}
use Rattle.std.specs.Fmt.{decimal}
use Rattle.std.specs.List.{concat, find, flat_map}
use Rattle.std.proofs.lemmas.List.Elements.{All-append, All-cons, All-map, All-nil}
use Rattle.std.proofs.lemmas.List.Folds.{concat-append}
use Rattle.mdv_base.specs.declared.name.Named.TheVariants.{Volume as NamedVolume, Pool as NamedPool}
use Rattle.mdv_base.specs.declared.name.VolId.{VolId}
use Rattle.mdv_plan.specs.declared.pool.Pool.{Pool as OnePool}
use Rattle.mdv_print.specs.Below.{Part}
use Rattle.mdv_print.specs.Order.{uppermost, with_below}
use Rattle.mdv_print.specs.Parts.{kind_parts, pool_parts}
use Rattle.mdv_print.specs.Text.{found_line as found_pool, named_text, pool_line, volumes_text}
use Rattle.mdv_print.specs.Words.{next_words, pool_digits}
use Rattle.mdv_status.specs.Telling.{lacks}
use Rattle.mdv_status.proofs.Pieces.{lacks_append}
use Rattle.mdv_status.proofs.Replies.{other_ends_not}
use Rattle.mdv_listing.specs.Below.{IsQuietLine, Named, Plan, Volume, names_text, volume_line}
use Rattle.mdv_listing.specs.Listing.{IsOfQuietLines, listing_of}
use Rattle.mdv_listing.proofs.Words.{safe_kind, safe_pool, word_lacks, words_lack}

quiet_line : (b : ℕ) (bs words : List ℕ) → (b == 111) ≡ false → (b == 114) ≡ false → lacks 10 (b ∷ bs) ≡ true → lacks 10 words ≡ true → IsQuietLine ((b ∷ bs) ++ (words ++ 10 ∷ []))
quiet_line b bs words one other name behind =
    record {
      text = (b ∷ bs) ++ words;
      line = sym (append_assoc (b ∷ bs) words (10 ∷ []));
      whole = lacks_append (b ∷ bs) words name behind;
      quiet = other_ends_not b (bs ++ (words ++ 10 ∷ [])) one other;
    }

volume_quiet : (v : Volume) → IsQuietLine (volume_line None v)
volume_quiet v = quiet_line 100 (decimal v.number.0) (next_words None (kind_parts v.kind)) refl refl (word_lacks (Part.Volume v.number) refl) (words_lack (kind_parts v.kind) (safe_kind v.kind))

pool_quiet : (q : OnePool) → IsQuietLine (pool_line None q)
pool_quiet q = quiet_line 104 (115 ∷ 112 ∷ pool_digits q.number.0) (next_words None (pool_parts q)) refl refl (word_lacks (Part.Pool q.number) refl) (words_lack (pool_parts q) (safe_pool q))

joined : {X : Type 0} (line : X → List ℕ) (xs : List X) → flat_map line xs ≡ concat (map line xs)
joined line [] = refl
joined line (x ∷ xs) = ap (λ (l : List ℕ). line x ++ l) (joined line xs)

-- a line for each
lines_of : {X : Type 0} (line : X → List ℕ) → ((x : X) → IsQuietLine (line x)) → (xs : List X) → IsOfQuietLines (flat_map line xs)
lines_of line each xs = record { lines = map line xs; quiet = All-map IsQuietLine line xs (λ k d within. each (get_or xs k d)); joined = joined line xs }

no_lines : IsOfQuietLines []
no_lines = record { lines = []; quiet = All-nil IsQuietLine; joined = refl }

one_line : (text : List ℕ) → IsQuietLine text → IsOfQuietLines text
one_line text quiet = record { lines = text ∷ []; quiet = All-cons IsQuietLine text [] quiet (All-nil IsQuietLine); joined = sym (append-nil text) }

more_lines : (a b : List ℕ) → IsOfQuietLines a → IsOfQuietLines b → IsOfQuietLines (a ++ b)
more_lines a b one other =
    record {
      lines = one.lines ++ other.lines;
      quiet = All-append IsQuietLine one.lines other.lines one.quiet other.quiet;
      joined = ap (λ (l : List ℕ). l ++ b) one.joined ∙ ap (λ (l : List ℕ). concat one.lines ++ l) other.joined ∙ sym (concat-append one.lines other.lines);
    }

-- volumes with those below them have a line each
volumes_are_lines : (p : Plan) (vs : List VolId) → IsOfQuietLines (volumes_text None p vs)
volumes_are_lines p vs = lines_of (volume_line None) volume_quiet (with_below p vs)

found_is_line : (found : Option OnePool) → IsOfQuietLines (found_pool None found)
found_is_line None = no_lines
found_is_line (Some q) = one_line (pool_line None q) (pool_quiet q)

named_are_lines : (p : Plan) (name : Named) → IsOfQuietLines (named_text None p name)
named_are_lines p (NamedVolume v) = volumes_are_lines p (v ∷ [])
named_are_lines p (NamedPool q) = found_is_line (find (λ (x : OnePool). x.number.0 == q.0) p.pools)

names_are_lines : (p : Plan) (names : List Named) → IsOfQuietLines (names_text None p names)
names_are_lines p [] = no_lines
names_are_lines p (name ∷ names) = more_lines (named_text None p name) (names_text None p names) (named_are_lines p name) (names_are_lines p names)

pub listings_are_lines : (p : Plan) (names : List Named) → IsOfQuietLines (listing_of p names)
listings_are_lines p [] = more_lines (volumes_text None p (uppermost p)) (flat_map (pool_line None) p.pools) (volumes_are_lines p (uppermost p)) (lines_of (pool_line None) pool_quiet p.pools)
listings_are_lines p (name ∷ names) = names_are_lines p (name ∷ names)
