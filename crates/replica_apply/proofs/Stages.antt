-- What a text reaches in one stage more.
use Rattle.std.proofs.Common.{◌≡◌, ℕ, zero, suc, inl, inr, ◌⊎◌, Some}
use Rattle.std.specs.List.{Contains}
use Rattle.wiki_model.specs.Bytes.{Bytes}
use Rattle.wiki_model.specs.Titles.{Title, Text}
use Rattle.wiki_model.specs.Html.{Templates}
use Rattle.page_markup.specs.Names.{names_from}
use Rattle.replica_apply.specs.Reached.{Reached, in_line}

-- named by the text of a template that is reached
pub record IsBehind (pages : Templates) (stages : ℕ) (text : Bytes) (name : Title) : Type 0 where
  pub via : Title
  pub inner : Text
  pub reached : Reached pages stages text via
  pub there : pages via ≡ Some inner
  pub named : Contains (names_from (in_line inner)) name

pub through : (P : Templates) (n : ℕ) (text : Bytes) (name via : Title) (inner : Text) → Contains (names_from text) via → P via ≡ Some inner → Reached P n (in_line inner) name → Reached P (suc n) text name
through P n text name via inner c p r = inr (via, inner, c, p, r)

pub reached_more : (P : Templates) (n : ℕ) (text : Bytes) (name : Title) → Reached P n text name → Reached P (suc n) text name
reached_more P zero text name r = absurd r
reached_more P (suc m) text name (inl c) = inl c
reached_more P (suc m) text name (inr v) = through P (suc m) text name v.0 v.1 v.2 v.3 (reached_more P m (in_line v.1) name v.4)

behind_first : (P : Templates) (m : ℕ) (text : Bytes) (name via : Title) (inner : Text) → Contains (names_from text) via → P via ≡ Some inner
    → Contains (names_from (in_line inner)) name ⊎ IsBehind P m (in_line inner) name → IsBehind P (suc m) text name
behind_first P m text name via inner c p (inl d) = record { via = via; inner = inner; reached = inl c; there = p; named = d }
behind_first P m text name via inner c p (inr b) = record { via = b.via; inner = b.inner; reached = through P m text b.via via inner c p b.reached; there = b.there; named = b.named }

pub reached_back : (P : Templates) (n : ℕ) (text : Bytes) (name : Title) → Reached P (suc n) text name → Contains (names_from text) name ⊎ IsBehind P n text name
reached_back P n text name (inl c) = inl c
reached_back P zero text name (inr v) = absurd v.4
reached_back P (suc m) text name (inr v) = inr (behind_first P m text name v.0 v.1 v.2 v.3 (reached_back P m (in_line v.1) name v.4))

behind_on : (P : Templates) (n : ℕ) (text : Bytes) (name u : Title) (inner : Text) → Reached P n text u → P u ≡ Some inner → Contains (names_from (in_line inner)) name → Reached P (suc n) text name
behind_on P zero text name u inner r p c = absurd r
behind_on P (suc m) text name u inner (inl d) p c = through P (suc m) text name u inner d p (inl c)
behind_on P (suc m) text name u inner (inr v) p c = through P (suc m) text name v.0 v.1 v.2 v.3 (behind_on P m (in_line v.1) name u inner v.4 p c)

pub reached_on : (P : Templates) (n : ℕ) (text : Bytes) (name : Title) → IsBehind P n text name → Reached P (suc n) text name
reached_on P n text name b = behind_on P n text name b.via b.inner b.reached b.there b.named
