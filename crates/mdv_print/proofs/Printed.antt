-- Each line of a plan is read as its entry, and the whole text as all of them.
use Rattle.std.proofs.Common.{◌≡◌, ◌<◌, ◌≤◌, ◌==◌, ◌&&◌, ◌||◌, ◌^◌, nat_lt, ℕ, suc, zero, Bool, true, false, cond, Option, None, Some, refl, sym, ◌∙◌, ap, subst, List, [], ◌∷◌, ◌++◌, length, map, append_assoc, append-nil, arith}
use Rattle.std.proofs.lemmas.List.Elements.{All-append, All-cons, All-head, All-map, All-nil, All-tail, All-weaker}
use Rattle.std.proofs.lemmas.List.Folds.{list_all-append}
use Rattle.std.specs.List.{All, flat_map, list_all}
use Rattle.mdv_base.specs.declared.name.PoolId.{PoolId}
use Rattle.mdv_base.specs.declared.name.VolId.{VolId}
use Rattle.mdv_extent.specs.declared.run.Run.{Run}
use Rattle.mdv_text.specs.Words.{words}
use Rattle.mdv_name.specs.Lines.{lines}
use Rattle.mdv_name.specs.Volume.{IsSetName}
use Rattle.mdv_parts.specs.declared.part.Part.{Part}
use Rattle.mdv_parts.specs.declared.names.Scope.{Scope}
use Rattle.mdv_parts.specs.Part.{AreParts}
use Rattle.mdv_plan.specs.declared.plan.Plan.{Plan}
use Rattle.mdv_plan.specs.declared.pool.Pool.{Pool as OnePool}
use Rattle.mdv_plan.specs.declared.volume.Base.{Base}
use Rattle.mdv_plan.specs.declared.volume.Base.TheVariants.{Slice, Volume}
use Rattle.mdv_plan.specs.declared.volume.Component.{Component}
use Rattle.mdv_plan.specs.declared.volume.ReadOption.{ReadOption}
use Rattle.mdv_plan.specs.declared.volume.ReadOption.TheVariants.{InTurn, Geometric, First}
use Rattle.mdv_plan.specs.declared.volume.Row.{Row}
use Rattle.mdv_plan.specs.declared.volume.Volume.{Volume as OneVolume}
use Rattle.mdv_plan.specs.declared.volume.VolumeKind.{VolumeKind}
use Rattle.mdv_plan.specs.declared.volume.VolumeKind.TheVariants.{Stripe, Mirror, Raid, Soft}
use Rattle.mdv_plan.specs.declared.volume.WriteOption.{WriteOption}
use Rattle.mdv_plan.specs.declared.volume.WriteOption.TheVariants.{Parallel, Serial}
use Rattle.mdv_tab.specs.Form.{entry_of}
use Rattle.mdv_tab.specs.Text.{IsTab, ReadsGroups, groups}
use Rattle.mdv_tab.specs.declared.entry.Entry.{Entry}
use Rattle.mdv_print.specs.Entries.{HasRange, IsInRange, IsPoolInRange, IsWholeKind, IsWholePlan, IsWholePool, IsWholeRow, IsWholeRun, IsWholeVolume, entries_of, entry_of_pool, entry_of_volume}
use Rattle.mdv_plan.specs.Named.{kind_below}
use Rattle.mdv_print.specs.Order.{first_or, go_on, is_among, next_of, untold, uppermost, volume_of, walk, with_below}
use Rattle.mdv_print.specs.Parts.{base_part, component_part, extent_parts, interlace_parts, kind_parts, pool_parts, read_parts, row_parts, spare_part, spares_parts, submirror_part, write_parts}
use Rattle.mdv_print.specs.Text.{pool_line, tab_text, volume_line}
use Rattle.mdv_print.specs.Words.{line_of, next_word, next_words, part_word}
use Rattle.mdv_print.proofs.Forms.{pool_is, volume_is}
use Rattle.mdv_print.proofs.Lines.{IsLineOf, IsLineText, is_line_byte, reads_lines, word_last, word_then}
use Rattle.mdv_print.proofs.Spelled.{IsGood, IsPlain, is_plain_byte, word_plain, word_some, words_are}
use Rattle.mdv_print.proofs.Walking.{found_holds, has_number}

good_flat : {X : Type 0} (parts : X → List Part) (P : X → Type 0) → ((x : X) → P x → All IsGood (parts x)) → (xs : List X) → All P xs → All IsGood (flat_map parts xs)
good_flat parts P each [] all = All-nil IsGood
good_flat parts P each (x ∷ xs) all = All-append IsGood (parts x) (flat_map parts xs) (each x (All-head P x xs all)) (good_flat parts P each xs (All-tail P x xs all))

good_base : (b : Base) → IsInRange b → IsGood (base_part b)
good_base (Slice s) range = range
good_base (Volume v) range = range

good_components : (cs : List Component) → All HasRange cs → All IsGood (map component_part cs)
good_components cs all = All-map IsGood component_part cs (All-weaker HasRange (λ (c : Component). IsGood (component_part c)) (λ c range. good_base c.on range) cs all)

good_one : (p : Part) → IsGood p → All IsGood (p ∷ [])
good_one p good = All-cons IsGood p [] good (All-nil IsGood)

good_interlace : (blocks : ℕ) → blocks ≤ 2 ^ 40 → All IsGood (interlace_parts blocks)
good_interlace blocks small = All-cons IsGood (Part.Letter 105) (Part.Size blocks ∷ []) refl (good_one (Part.Size blocks) small)

good_spares : (spares : Option PoolId) → IsPoolInRange spares → All IsGood (spares_parts spares)
good_spares None range = All-nil IsGood
good_spares (Some q) range = All-cons IsGood (Part.Letter 104) (Part.Pool q ∷ []) refl (good_one (Part.Pool q) range)

good_wide : (wide : Bool) (blocks : ℕ) → blocks ≤ 2 ^ 40 → All IsGood (cond wide (interlace_parts blocks) [])
good_wide true blocks small = good_interlace blocks small
good_wide false blocks small = All-nil IsGood

good_row : (row : Row) → IsWholeRow row → All IsGood (row_parts row)
good_row row whole =
    let cs = row.components in
    let wide = nat_lt 1 (length cs) in
    All-cons IsGood (Part.Number (length cs)) (map component_part cs ++ cond wide (interlace_parts row.interlace) []) whole.width
    (All-append IsGood (map component_part cs) (cond wide (interlace_parts row.interlace) []) (good_components cs whole.components) (good_wide wide row.interlace whole.interlace))

good_read : (read : ReadOption) → All IsGood (read_parts read)
good_read InTurn = All-nil IsGood
good_read Geometric = good_one (Part.Letter 103) refl
good_read First = good_one (Part.Letter 114) refl

good_write : (write : WriteOption) → All IsGood (write_parts write)
good_write Parallel = All-nil IsGood
good_write Serial = good_one (Part.Letter 83) refl

good_run : (run : Run) → IsWholeRun run → All IsGood (extent_parts run)
good_run run whole =
    All-cons IsGood (Part.Letter 111) (Part.Number run.at ∷ Part.Letter 98 ∷ Part.Number run.blocks ∷ []) refl
    (All-cons IsGood (Part.Number run.at) (Part.Letter 98 ∷ Part.Number run.blocks ∷ []) whole.0
    (All-cons IsGood (Part.Letter 98) (Part.Number run.blocks ∷ []) refl (good_one (Part.Number run.blocks) whole.1)))

good_kind : (kind : VolumeKind) → IsWholeKind kind → All IsGood (kind_parts kind)
good_kind (Stripe s) whole =
    let rows = flat_map row_parts s.rows in
    All-cons IsGood (Part.Number (length s.rows)) (rows ++ spares_parts s.spares) whole.1
    (All-append IsGood rows (spares_parts s.spares) (good_flat row_parts IsWholeRow good_row s.rows whole.2) (good_spares s.spares whole.3))
good_kind (Mirror m) whole =
    let subs = map submirror_part m.submirrors in
    let last = Part.Number m.pass ∷ [] in
    All-cons IsGood (Part.Letter 109) (subs ++ (read_parts m.read ++ (write_parts m.write ++ last))) refl
    (All-append IsGood subs (read_parts m.read ++ (write_parts m.write ++ last)) (All-map IsGood submirror_part m.submirrors whole.1)
    (All-append IsGood (read_parts m.read) (write_parts m.write ++ last) (good_read m.read)
    (All-append IsGood (write_parts m.write) last (good_write m.write) (good_one (Part.Number m.pass) (omega (arith, whole.3))))))
good_kind (Raid r) whole =
    let columns = map component_part r.columns in
    let last = interlace_parts r.interlace ++ spares_parts r.spares in
    All-cons IsGood (Part.Letter 114) (columns ++ Part.Letter 107 ∷ last) refl
    (All-append IsGood columns (Part.Letter 107 ∷ last) (good_components r.columns whole.1)
    (All-cons IsGood (Part.Letter 107) last refl (All-append IsGood (interlace_parts r.interlace) (spares_parts r.spares) (good_interlace r.interlace whole.2) (good_spares r.spares whole.3))))
good_kind (Soft s) whole =
    All-cons IsGood (Part.Letter 112) (base_part s.base ∷ flat_map extent_parts s.extents) refl
    (All-cons IsGood (base_part s.base) (flat_map extent_parts s.extents) (good_base s.base whole.0) (good_flat extent_parts IsWholeRun good_run s.extents whole.2))

-- the text of a line in front of its newline
abbrev line_text : Option (List ℕ) → Part → List Part → List ℕ
line_text set p ps = part_word set p ++ next_words set ps

line_byte : (b : ℕ) → is_plain_byte b ≡ true → is_line_byte b ≡ true
line_byte b is = rw is refl

word_text : (t : List ℕ) → IsPlain t → IsLineText t
word_text [] plain = refl
word_text (b ∷ t) plain =
    let P : Bool → Type 0 = λ v. v && list_all is_plain_byte t ≡ true → (v || (b == 32)) && list_all is_line_byte t ≡ true in
    let yes : P true = λ rest. word_text t rest in
    let no : P false = λ never. cc in
    (elim (is_plain_byte b) as P [ true ↦ yes | false ↦ no ]) plain

text_append : (xs ys : List ℕ) → IsLineText xs → IsLineText ys → IsLineText (xs ++ ys)
text_append xs ys first second = rw (list_all-append is_line_byte xs ys, first, second) refl

next_plain : (set : Option (List ℕ)) (ps : List Part) → IsSetName set → All IsGood ps → IsLineText (next_words set ps)
next_plain set [] form good = refl
next_plain set (p ∷ ps) form good =
    text_append (next_word set p) (next_words set ps) (word_text (part_word set p) (word_plain set p form (All-head IsGood p ps good))) (next_plain set ps form (All-tail IsGood p ps good))

text_plain : (set : Option (List ℕ)) (p : Part) (ps : List Part) → IsSetName set → IsGood p → All IsGood ps → IsLineText (line_text set p ps)
text_plain set p ps form here good = text_append (part_word set p) (next_words set ps) (word_text (part_word set p) (word_plain set p form here)) (next_plain set ps form good)

split_word : (w rest : List ℕ) → IsPlain w → 0 < length w → words (w ++ 32 ∷ rest) ≡ w ∷ words rest
split_word [] rest plain some = absurd (omega arith)
split_word (b ∷ w) rest plain some = word_then b w rest plain

last_word : (w : List ℕ) → IsPlain w → 0 < length w → words w ≡ w ∷ []
last_word [] plain some = absurd (omega arith)
last_word (b ∷ w) plain some = word_last b w plain

text_words : (set : Option (List ℕ)) (p : Part) (ps : List Part) → IsSetName set → IsGood p → All IsGood ps → words (line_text set p ps) ≡ map (part_word set) (p ∷ ps)
text_words set p [] form here good = ap words (append-nil (part_word set p)) ∙ last_word (part_word set p) (word_plain set p form here) (word_some set p here)
text_words set p (q ∷ ps) form here good =
    split_word (part_word set p) (line_text set q ps) (word_plain set p form here) (word_some set p here)
    ∙ ap (λ (ws : List (List ℕ)). part_word set p ∷ ws) (text_words set q ps form (All-head IsGood q ps good) (All-tail IsGood q ps good))

line_is : (set : Option (List ℕ)) (p : Part) (ps : List Part) (e : Entry) → IsSetName set → IsGood p → All IsGood ps → entry_of set (p ∷ ps) ≡ Some e → IsLineOf (line_of set p ps) e
line_is set p ps e form here good is =
    let all : All IsGood (p ∷ ps) = All-cons IsGood p ps here good in
    record {
      text = line_text set p ps;
      ends = sym (append_assoc (part_word set p) (next_words set ps) (10 ∷ []));
      plain = text_plain set p ps form here good;
      entry = record {
        set = set;
        parts = p ∷ ps;
        spelled = subst (λ (ws : List (List ℕ)). AreParts (Scope.Only set) ws (p ∷ ps)) (sym (text_words set p ps form here good)) (words_are set (p ∷ ps) form all);
        form = is;
      };
    }

pub volume_read : (set : Option (List ℕ)) (v : OneVolume) → IsSetName set → IsWholeVolume v → IsLineOf (volume_line set v) (entry_of_volume set v)
volume_read set v form whole = line_is set (Part.Volume v.number) (kind_parts v.kind) (entry_of_volume set v) form whole.number (good_kind v.kind whole.kind) (volume_is set v whole)

good_pool : (q : OnePool) → IsWholePool q → All IsGood (pool_parts q)
good_pool q whole = All-map IsGood spare_part q.spares whole.spares

pub pool_read : (set : Option (List ℕ)) (q : OnePool) → IsSetName set → IsWholePool q → IsLineOf (pool_line set q) (entry_of_pool set q)
pool_read set q form whole = line_is set (Part.Pool q.number) (pool_parts q) (entry_of_pool set q) form whole.number (good_pool q whole) (pool_is set q)

-- what holds of all volumes holds of those that a walk tells
pub untold_holds : (P : OneVolume → Type 0) (p : Plan) (told : List VolId) (v : VolId) (w : OneVolume) → All P p.volumes → untold p told v ≡ Some w → P w
untold_holds P p told v w all is =
    let Q : Bool → Type 0 = λ b. cond b None (volume_of p v) ≡ Some w → P w in
    let yes : Q true = λ never. cc in
    let no : Q false = λ found. found_holds P (has_number v.0) p.volumes w all found in
    (elim (is_among told v) as Q [ true ↦ yes | false ↦ no ]) is

abbrev volume_or : Option (OneVolume × List VolId) → OneVolume → OneVolume
volume_or None d = d
volume_or (Some x) d = x.0

pub next_holds : (P : OneVolume → Type 0) (p : Plan) (told vs later : List VolId) (w : OneVolume) → All P p.volumes → next_of p told vs ≡ Some (w, later) → P w
next_holds P p told [] later w all is = cc
next_holds P p told (v ∷ vs) later w all is =
    let Q : Option OneVolume → Type 0 = λ o. (untold p told v ≡ o) → first_or o vs (next_of p told vs) ≡ Some (w, later) → P w in
    let none : Q None = λ here same. next_holds P p told vs later w all same in
    let some : (x : OneVolume) → Q (Some x) = λ x here same. let e : x ≡ w = ap (λ (o : Option (OneVolume × List VolId)). volume_or o w) same in untold_holds P p told v w all (here ∙ ap Some e) in
    (elim (untold p told v) as Q [ None ↦ none | Some x ↦ some x ]) refl is

pub walk_holds : (P : OneVolume → Type 0) (p : Plan) (n : ℕ) (told vs : List VolId) → All P p.volumes → All P (walk n p told vs)
walk_holds P p zero told vs all = All-nil P
walk_holds P p (suc n) told vs all =
    let next : OneVolume → List VolId → List OneVolume = λ w later. walk n p (told ++ w.number ∷ []) (kind_below w.kind ++ later) in
    let Q : Option (OneVolume × List VolId) → Type 0 = λ o. (next_of p told vs ≡ o) → All P (go_on o next) in
    let none : Q None = λ here. All-nil P in
    let some : (x : OneVolume × List VolId) → Q (Some x) =
    λ x here. All-cons P x.0 (next x.0 x.1) (next_holds P p told vs x.1 x.0 all here) (walk_holds P p n (told ++ x.0.number ∷ []) (kind_below x.0.kind ++ x.1) all)
    in
    (elim (next_of p told vs) as Q [ None ↦ none | Some x ↦ some x ]) refl

pub tab_read : (set : Option (List ℕ)) (p : Plan) → IsSetName set → IsWholePlan p → ReadsGroups (groups (lines (tab_text set p))) (entries_of set p)
tab_read set p form whole =
    let told = with_below p (uppermost p) in
    let V : OneVolume → Type 0 = λ v. IsLineOf (volume_line set v) (entry_of_volume set v) in
    let Q : OnePool → Type 0 = λ q. IsLineOf (pool_line set q) (entry_of_pool set q) in
    let volumes : All V told = All-weaker IsWholeVolume V (λ v good. volume_read set v form good) told (walk_holds IsWholeVolume p (length p.volumes) [] (uppermost p) whole.volumes) in
    let pools : All Q p.pools = All-weaker IsWholePool Q (λ q good. pool_read set q form good) p.pools whole.pools in
    let last : ReadsGroups (groups (lines (flat_map (pool_line set) p.pools))) (map (entry_of_pool set) p.pools) =
    subst (λ (l : List ℕ). ReadsGroups (groups (lines l)) (map (entry_of_pool set) p.pools)) (append-nil (flat_map (pool_line set) p.pools))
    (subst (λ (es : List Entry). ReadsGroups (groups (lines (flat_map (pool_line set) p.pools ++ []))) es) (append-nil (map (entry_of_pool set) p.pools)) (reads_lines (pool_line set) (entry_of_pool set) p.pools [] [] pools refl))
    in
    reads_lines (volume_line set) (entry_of_volume set) told (flat_map (pool_line set) p.pools) (map (entry_of_pool set) p.pools) volumes last

pub tab_is : (set : Option (List ℕ)) (p : Plan) → IsSetName set → IsWholePlan p → length (tab_text set p) ≤ 65536 → length (entries_of set p) ≤ 1024 → IsTab (tab_text set p) (entries_of set p)
tab_is set p form whole short few = record { short = short; read = tab_read set p form whole; few = few }
