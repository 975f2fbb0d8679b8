-- A snapshot's own page is what is rendered from its lists; and a store into the cache alone is one into the region.
use Rattle.std.proofs.Common.{◌≡◌, ℕ, List, Option, Result, Ok, Err, IfOk, ap, ◌∙◌}
use Rattle.wiki_model.specs.Bytes.{Bytes}
use Rattle.wiki_model.specs.Html.{page_html}
use Rattle.wiki_model.specs.Cache.{CacheMap}
use Rattle.wiki_model.specs.Answers.{Answer}
use Rattle.page_render.specs.AsModel.{template_text}
use Rattle.replica_apply.specs.declared.snapshot.Snapshot.{Snapshot}
use Rattle.region_state.specs.declared.snap_view.Snapped.{Snapped}
use Rattle.region_state.specs.RegionState.{RegionParts, with_cache}
use Rattle.region_state.specs.StoreView.{rendered, StoresIn, StoresInto}

pub rendered_is : {E : Type 0} (r : Result (List ℕ) E) (markup : ℕ) (title text : List ℕ) (s : Snapshot) (list : List (List ℕ × List ℕ)) (notice : Option (List ℕ)) → list ≡ s.templates → notice ≡ s.notice
    → IfOk r (λ page. page ≡ page_html markup title text (template_text list) notice) → IfOk r (λ page. page ≡ rendered markup title text s)
unfolding rendered
rendered_is (Err e) markup title text s list notice lists notices is = tt
rendered_is (Ok page) markup title text s list notice lists notices is =
    is ∙ ap (λ l. page_html markup title text (template_text l) notice) lists ∙ ap (λ n. page_html markup title text (template_text s.templates) n) notices

-- a region after a store into its cache
pub region_stores : {S : Type 0} (cache_of : S → CacheMap Bytes) (parts : RegionParts S) (cache : Option S) (title : List ℕ) (s : Snapped) (now : ℕ) (answer : Answer)
    → StoresInto cache_of parts.cache cache title s now parts.config.read_lag parts.markup answer → StoresIn cache_of parts (with_cache cache parts) title s now answer
region_stores {S} cache_of parts cache title s now answer (before, after, old_is, new_is, at) =
    (before, after, old_is, ap (λ c. with_cache c parts) new_is, at)
