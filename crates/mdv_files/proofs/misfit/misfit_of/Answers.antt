use Rattle.std.proofs.Common.{◌≡◌, ℕ, List, Contains, sym, ◌∙◌, ap, subst, [], ◌∷◌, map, string_bytes}
use Rattle.mdv_home.proofs.OneItem.{one_item}
use Rattle.mdv_files.proofs.misfit.misfit_of.Goals as goal

pub returns-in-Some-clause-fits : goal.returns-in-Some-clause-fits
returns-in-Some-clause-fits c =
    let named = c.in-Some.ensures.value in
    record {
      name = string_bytes c.host-item.result;
      only = ap (map string_bytes) (one_item c.args.words.now c.host-item.result c.in-len1.len_at_least c.in-len1.len_below c.host-item.is);
      known = subst (λ (hosts : List (List ℕ)). Contains hosts (string_bytes c.host-item.result)) c.as_slice.ensures (subst (Contains c.as_slice.result.now) (named.1 ∙ c.as_bytes.ensures.value) named.0);
    }

pub returns-in-None-clause-misfit : goal.returns-in-None-clause-misfit
returns-in-None-clause-misfit c = record {
  name = string_bytes c.host-item.result;
  only = ap (map string_bytes) (one_item c.args.words.now c.host-item.result c.in-len1.len_at_least c.in-len1.len_below c.host-item.is);
  unknown = λ has. c.in-None.ensures.none (subst (Contains c.as_slice.result.now) (sym c.as_bytes.ensures.value) (subst (λ (hosts : List (List ℕ)). Contains hosts (string_bytes c.host-item.result)) (sym c.as_slice.ensures) has));
}

pub returns-in-None-clause-faulty : goal.returns-in-None-clause-faulty
returns-in-None-clause-faulty c = λ _ fits.
    let words = ap (map string_bytes) (one_item c.args.words.now c.host-item.result c.in-len1.len_at_least c.in-len1.len_below c.host-item.is) in
    let names : fits.name ∷ [] ≡ string_bytes c.host-item.result ∷ [] = sym fits.only ∙ words in
    let name : fits.name ≡ c.as_bytes.result.now = cc (names, c.as_bytes.ensures.value) in
    c.in-None.ensures.none (subst (Contains c.as_slice.result.now) name (subst (λ (hosts : List (List ℕ)). Contains hosts fits.name) (sym c.as_slice.ensures) fits.known))
