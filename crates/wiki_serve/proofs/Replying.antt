-- The response of each answer, put together from its parts.
use Rattle.std.proofs.Common.{◌≡◌, List, [], ◌∷◌, ◌++◌, length, Bool, true, false, refl, sym, ap, subst, ◌∙◌, append-nil, Result, Ok, Err}
use Rattle.std.specs.Prelude.{IfOk, if◌then◌else◌, codes}
use Rattle.std.specs.Arc.{arc_value}
use Rattle.wiki_model.specs.Bytes.{Bytes}
use Rattle.wiki_model.specs.Answers.{Saved}
use Rattle.wiki_model.specs.Report.{page_of}
use Rattle.http_reply.specs.Reply.{head_of_length, answer_bytes}
use Rattle.sticky_routes.specs.SetCookies.{value_at}
use Rattle.region_state.specs.declared.answer.PageAnswer.{PageAnswer}
use Rattle.region_state.specs.declared.answer.Answer.{Answer}
use Rattle.region_state.specs.declared.answer.Answer.TheVariants as answers
use Rattle.region_state.specs.AsModel.{answer_of}
use Rattle.wiki_serve.specs.Replies.{answer_lines, answer_reply, text_reply, cookie_of_saved, saved_lines}

pub if_ok_map : {V E : Type 0} (P Q : V → Type 0) (r : Result V E) → ((v : V) → P v → Q v) → IfOk r P → IfOk r Q
if_ok_map P Q (Ok v) f p = f v p
if_ok_map P Q (Err e) f p = tt

pub page_start : (a : Answer) (p : PageAnswer) (start : Bytes) (lines : List (Bytes × Bytes)) (location : Bytes) (head close : Bool) → a ≡ answers.Ok p → lines ≡ answer_lines location (answer_of a)
    → start ≡ head_of_length 200 true (length (arc_value p.page)) lines close → start ++ (if head then [] else page_of (answer_of a)) ≡ answer_bytes (answer_reply location (answer_of a) head close)
page_start a p start lines location head close is lines_is start_is =
    subst (λ (b : Answer). start ++ (if head then [] else page_of (answer_of b)) ≡ answer_bytes (answer_reply location (answer_of b) head close)) (sym is)
    (ap (λ (l : Bytes). l ++ (if head then [] else arc_value p.page))
    (start_is ∙ ap (λ (ls : List (Bytes × Bytes)). head_of_length 200 true (length (arc_value p.page)) ls close) (lines_is ∙ ap (λ (b : Answer). answer_lines location (answer_of b)) is)))

nothing : (head : Bool) (start : Bytes) → start ++ (if head then [] else []) ≡ start
nothing true start = append-nil start
nothing false start = append-nil start

pub text_start : (a : Answer) (start : Bytes) (lines : List (Bytes × Bytes)) (location : Bytes) (head close : Bool) → ((p : PageAnswer) → a ≡ answers.Ok p → ⊥) → lines ≡ answer_lines location (answer_of a)
    → start ≡ answer_bytes (text_reply (answer_of a) lines head close) → start ++ (if head then [] else page_of (answer_of a)) ≡ answer_bytes (answer_reply location (answer_of a) head close)
text_start (answers.Ok p) start lines location head close other lines_is start_is = absurd (other p refl)
text_start (answers.Saved s) start lines location head close other lines_is start_is =
    nothing head start ∙ start_is ∙ ap (λ (ls : List (Bytes × Bytes)). answer_bytes (text_reply (answer_of (answers.Saved s)) ls head close)) lines_is
text_start (answers.NoPage source) start lines location head close other lines_is start_is =
    nothing head start ∙ start_is ∙ ap (λ (ls : List (Bytes × Bytes)). answer_bytes (text_reply (answer_of (answers.NoPage source)) ls head close)) lines_is
text_start (answers.Conflict base current) start lines location head close other lines_is start_is =
    nothing head start ∙ start_is ∙ ap (λ (ls : List (Bytes × Bytes)). answer_bytes (text_reply (answer_of (answers.Conflict base current)) ls head close)) lines_is
text_start (answers.Token entry) start lines location head close other lines_is start_is =
    nothing head start ∙ start_is ∙ ap (λ (ls : List (Bytes × Bytes)). answer_bytes (text_reply (answer_of (answers.Token entry)) ls head close)) lines_is
text_start (answers.Lag by needed reached) start lines location head close other lines_is start_is =
    nothing head start ∙ start_is ∙ ap (λ (ls : List (Bytes × Bytes)). answer_bytes (text_reply (answer_of (answers.Lag by needed reached)) ls head close)) lines_is
text_start (answers.Miss cause) start lines location head close other lines_is start_is =
    nothing head start ∙ start_is ∙ ap (λ (ls : List (Bytes × Bytes)). answer_bytes (text_reply (answer_of (answers.Miss cause)) ls head close)) lines_is
text_start (answers.NotOpen id) start lines location head close other lines_is start_is =
    nothing head start ∙ start_is ∙ ap (λ (ls : List (Bytes × Bytes)). answer_bytes (text_reply (answer_of (answers.NotOpen id)) ls head close)) lines_is
text_start (answers.Unknown message) start lines location head close other lines_is start_is =
    nothing head start ∙ start_is ∙ ap (λ (ls : List (Bytes × Bytes)). answer_bytes (text_reply (answer_of (answers.Unknown message)) ls head close)) lines_is
text_start (answers.Gone message) start lines location head close other lines_is start_is =
    nothing head start ∙ start_is ∙ ap (λ (ls : List (Bytes × Bytes)). answer_bytes (text_reply (answer_of (answers.Gone message)) ls head close)) lines_is
text_start answers.Store start lines location head close other lines_is start_is =
    nothing head start ∙ start_is ∙ ap (λ (ls : List (Bytes × Bytes)). answer_bytes (text_reply (answer_of answers.Store) ls head close)) lines_is
text_start answers.Memory start lines location head close other lines_is start_is =
    nothing head start ∙ start_is ∙ ap (λ (ls : List (Bytes × Bytes)). answer_bytes (text_reply (answer_of answers.Memory) ls head close)) lines_is

-- the fields of a saved edit, one after another
pub saved_are : (l0 l1 l2 l3 l4 : List (Bytes × Bytes)) (location : Bytes) (saved : Saved) (v1 v2 v3 : Bytes) → l0 ≡ [] → l1 ≡ l0 ++ (codes "Location", location) ∷ []
    → l2 ≡ l1 ++ (codes "Set-Cookie", v1) ∷ [] → l3 ≡ l2 ++ (codes "Set-Cookie", v2) ∷ [] → l4 ≡ l3 ++ (codes "Set-Cookie", v3) ∷ []
    → v1 ≡ value_at 0 (cookie_of_saved saved) → v2 ≡ value_at 1 (cookie_of_saved saved) → v3 ≡ value_at 2 (cookie_of_saved saved) → l4 ≡ saved_lines location saved
saved_are l0 l1 l2 l3 l4 location saved v1 v2 v3 e0 e1 e2 e3 e4 first second third =
    e4 ∙ ap (λ (l : List (Bytes × Bytes)). l ++ (codes "Set-Cookie", v3) ∷ []) (e3 ∙ ap (λ (l : List (Bytes × Bytes)). l ++ (codes "Set-Cookie", v2) ∷ []) (e2 ∙ ap (λ (l : List (Bytes × Bytes)). l ++ (codes "Set-Cookie", v1) ∷ []) (e1 ∙ ap (λ (l : List (Bytes × Bytes)). l ++ (codes "Location", location) ∷ []) e0)))
    ∙ ap (λ (v : Bytes). (codes "Location", location) ∷ (codes "Set-Cookie", v) ∷ (codes "Set-Cookie", v2) ∷ (codes "Set-Cookie", v3) ∷ []) first
    ∙ ap (λ (v : Bytes). (codes "Location", location) ∷ (codes "Set-Cookie", value_at 0 (cookie_of_saved saved)) ∷ (codes "Set-Cookie", v) ∷ (codes "Set-Cookie", v3) ∷ []) second
    ∙ ap (λ (v : Bytes). (codes "Location", location) ∷ (codes "Set-Cookie", value_at 0 (cookie_of_saved saved)) ∷ (codes "Set-Cookie", value_at 1 (cookie_of_saved saved)) ∷ (codes "Set-Cookie", v) ∷ []) third
