-- Each kind of call: a page, an edit, and a batch.
use Rattle.std.proofs.Common.{◌≡◌, ℕ, ◌≤◌, arith, Bool, List, [], ◌∷◌, ◌++◌, length, map, Option, Some, None, refl, sym, ap, subst, ◌∙◌, append_assoc}
use Rattle.std.specs.Prelude.{All, option_map}
use Rattle.std.proofs.lemmas.List.Elements.{All-nil, All-cons, All-head, All-tail}
use Rattle.wiki_model.specs.declared.Readings.{Readings}
use Rattle.wiki_model.specs.Bytes.{Bytes, first_of_list}
use Rattle.wiki_model.specs.declared.Region.{Region}
use Rattle.wiki_model.specs.Cookies.{region_of_host}
use Rattle.wiki_model.specs.Titles.{Title, Client}
use Rattle.wiki_model.specs.History.{Entry, Edit}
use Rattle.wiki_model.specs.Cache.{CacheMap}
use Rattle.wiki_model.specs.World.{World, Asked, View, Cookie, at_readings}
use Rattle.wiki_model.specs.World.Asked.{AskedView, AskedEdit}
use Rattle.wiki_model.specs.Answers as model
use Rattle.wiki_model.specs.Answers.{Answer}
use Rattle.wiki_model.specs.Answered.{EndsBatch}
use Rattle.wiki_model.specs.Sequences.{Makes}
use Rattle.wiki_model.specs.Steps as steps
use Rattle.wiki_model.specs.Runs.{Turn}
use Rattle.wiki_model.specs.Serving.{GoesBy, Taken, IsReceivable, Splits, ServesOne, room_beside}
use Rattle.purge_relay.specs.declared.message.Message.{Message}
use Rattle.wiki_model.specs.Asking.{Request, Call, PageCall, EditCall, BatchCall, FeedCall, MessagesCall}
use Rattle.farm_base.specs.Series.{Series, Gives}
use Rattle.region_state.specs.declared.answer.Answer.{Answer as CodeAnswer}
use Rattle.region_state.specs.AsModel.{answer_of, view_of}
use Rattle.sticky_routes.specs.AsModel.{cookie_of}
use Rattle.region_round.specs.AsModel.{answers_of}
use Rattle.wiki_serve.specs.declared.callers.Caller.{Caller}
use Rattle.wiki_serve.specs.declared.serve_batch.BatchRoom.{BatchRoom}
use Rattle.wiki_serve.specs.declared.serve_batch.Drawn.{Drawn}
use Rattle.wiki_serve.specs.declared.serve_batch.Said.{Said}
use Rattle.wiki_serve.specs.declared.serve_batch.Said.TheVariants as said
use Rattle.farm_steps.specs.Moments.{moment_of, moments_at}
use Rattle.farm_core.specs.FarmParts.{FarmParts, SameShape}
use Rattle.farm_steps.specs.RequestMap.{open_at}
use Rattle.wiki_serve.specs.Exchanges.{Outcome, Answered, Listed}
use Rattle.wiki_serve.specs.Replies.{location_of, answer_reply}
use Rattle.wiki_serve.specs.Callers.{Desk, region_of, moment_for, view_for, edit_for, live_cookie, client_of_cookie, client_for, stranger_of, view_by}
use Rattle.wiki_serve.specs.Services.{DoesCall}
use Rattle.wiki_serve.specs.Turns.{FitsAsked, MakesAnswer}
use Rattle.wiki_serve.specs.Housework.{WireSeen, DoesHousework, ServesAsked}
use Rattle.wiki_serve.specs.Batches.{steps_to_round, jobs_in}
use Rattle.wiki_serve.specs.BatchSteps.{title_of, word_of, pair_of, IsRoomFor, HasRoomFor, IsDrawn, said_outcome, ServesBatch}
use Rattle.wiki_serve.specs.Reactions.{outside_seen, IsAnswerTo, IsLocationFor, CalledFor, DoesCallFor}
use Rattle.wiki_serve.specs.HoldingBack.{all_taken}
use Rattle.wiki_serve.proofs.Steps.{shapes}
use Rattle.wiki_serve.proofs.Quiet.{quiet_house}
use Rattle.wiki_serve.proofs.Receivable.{receivable_there}
use Rattle.wiki_serve.proofs.Holding.{held_receivable, none_fits}
use Rattle.wiki_serve.proofs.Calling.{service_with, moment_is, called_for, asked_called}

page_answer : (view : View) (title : Title) (a : Answer) → FitsAsked (AskedView view) a → IsAnswerTo (PageCall title) title a
page_answer view title (model.EditSaved saved) fits = absurd fits
page_answer view title _ fits = refl

-- the response to an answer by the text of its location
pub located : (call : Call) (text : Bytes) (title : Title) (a : Answer) → IsLocationFor call text → IsAnswerTo call title a → (head close : Bool) → answer_reply text a head close ≡ answer_reply (location_of title) a head close
located (PageCall asked) text title (model.EditSaved saved) is to head close = absurd to
located (PageCall asked) text title _ is to head close = refl
located (EditCall asked base token body) text title a is to head close = ap (λ (t : Bytes). answer_reply t a head close) (is ∙ ap location_of (sym to))
located (BatchCall titles) text title (model.EditSaved saved) is to head close = absurd to
located (BatchCall titles) text title _ is to head close = refl
located (FeedCall from) text title a is to head close = absurd to
located (MessagesCall from) text title a is to head close = absurd to

-- a batch that is answered one answer is behind, or out of memory
batch_answer : (titles : List Title) (title : Title) (a : Answer) → EndsBatch a → IsAnswerTo (BatchCall titles) title a
batch_answer titles title (model.Lagging by needed reached) fits = tt
batch_answer titles title model.NoMemory fits = tt
batch_answer titles title _ fits = absurd fits

-- what was made before the first step is what the batch needs
pub room_is : (call : Call) (titles : List Title) (made : Option BatchRoom) (room : BatchRoom) → call ≡ BatchCall titles → made ≡ Some room → HasRoomFor call made → IsRoomFor room titles
room_is call titles made room call_is is has = subst (HasRoomFor (BatchCall titles)) is (subst (λ (c : Call). HasRoomFor c made) call_is has)

-- titles with their words

titles_drawn : (drawn : List Drawn) → map (λ (d : Title × ℕ). d.0) (map pair_of drawn) ≡ map title_of drawn
titles_drawn [] = refl
titles_drawn (d ∷ drawn) = ap (λ (l : List Title). d.title ∷ l) (titles_drawn drawn)

words_drawn : (drawn : List Drawn) → map (λ (d : Title × ℕ). d.1) (map pair_of drawn) ≡ map word_of drawn
words_drawn [] = refl
words_drawn (d ∷ drawn) = ap (λ (l : List ℕ). d.word ∷ l) (words_drawn drawn)

first_drawn : (drawn : List Drawn) (titles : List Title) (title : Title) (word : ℕ) → map title_of drawn ≡ titles → first_of_list titles ≡ Some title → first_of_list (map word_of drawn) ≡ Some word → first_of_list (map pair_of drawn) ≡ Some (title, word)
first_drawn [] titles title word are first_title first_word = let never : ⊥ = cc in absurd never
first_drawn (d ∷ drawn) titles title word are first_title first_word =
    let told : Some d.title ≡ Some title = ap first_of_list are ∙ first_title in
    let t : d.title ≡ title = cc in
    let n : d.word ≡ word = cc in
    ap (λ (x : Title). Some (x, d.word)) t ∙ ap (λ (x : ℕ). Some (title, x)) n

-- turns that were made one after another
goes_apart : (xs ys : List Turn) (v w : World) → GoesBy v (xs ++ ys) w → (u : World) × GoesBy v xs u × GoesBy u ys w
goes_apart [] ys v w goes = (v, refl, goes)
goes_apart (x ∷ xs) ys v w (next, one, others) = let (u, first, rest) = goes_apart xs ys next w others in (u, (next, one, first), rest)

-- what was receivable before the housekeeping still is
all_there : (v w : World) (held : List Taken) → w.messages ≡ v.messages → All (IsReceivable v) held → All (IsReceivable w) held
all_there v w [] same all = All-nil (IsReceivable w)
all_there v w (t ∷ held) same all =
    All-cons (IsReceivable w) t held (receivable_there v w t same (All-head (IsReceivable v) t held all)) (all_there v w held same (All-tail (IsReceivable v) t held all))

-- the view of a request, and its edit, as they are put together

view_same : (desk : Desk) (now after word : ℕ) (request : Request) (title : Title) (host : Region) (client stranger : Client) (cookie : Option Cookie)
    → now ≡ after → host ≡ region_of_host request.host → cookie ≡ live_cookie now request → client ≡ client_of_cookie cookie stranger → stranger ≡ stranger_of desk.peer request.agent
    → (let view : View = record { host = host; client = client; cookie = cookie; use_master = request.cookies.use_master; word = word; title = title } in view) ≡ view_for desk after request word title
view_same desk now after word request title host client stranger cookie now_is host_is cookie_is client_is from =
    let kept : cookie ≡ live_cookie after request = cookie_is ∙ ap (λ (n : ℕ). live_cookie n request) now_is in
    let named : client ≡ client_for desk after request = client_is ∙ ap (λ (k : Option Cookie). client_of_cookie k stranger) kept ∙ ap (client_of_cookie (live_cookie after request)) from in
    ap (λ (h : Region). let view : View = record { host = h; client = client; cookie = cookie; use_master = request.cookies.use_master; word = word; title = title } in view) host_is
    ∙ ap (λ (c : Client). let view : View = record { host = region_of_host request.host; client = c; cookie = cookie; use_master = request.cookies.use_master; word = word; title = title } in view) named
    ∙ ap (λ (k : Option Cookie). let view : View = record { host = region_of_host request.host; client = client_for desk after request; cookie = k; use_master = request.cookies.use_master; word = word; title = title } in view) kept

-- the view of a caller is that of the request
pub view_called : (desk : Desk) (now after word : ℕ) (request : Request) (title : Title) (caller : Caller) (stranger : Client)
    → now ≡ after → caller.host ≡ region_of_host request.host → option_map cookie_of caller.cookie ≡ live_cookie now request → caller.client ≡ client_of_cookie (option_map cookie_of caller.cookie) stranger
    → caller.use_master ≡ request.cookies.use_master → stranger ≡ stranger_of desk.peer request.agent → view_of (view_by caller word title) ≡ view_for desk after request word title
view_called desk now after word request title caller stranger now_is host_is cookie_is client_is master_is from =
    ap (λ (m : Bool). let view : View = record { host = caller.host; client = caller.client; cookie = option_map cookie_of caller.cookie; use_master = m; word = word; title = title } in view) master_is
    ∙ view_same desk now after word request title caller.host caller.client stranger (option_map cookie_of caller.cookie) now_is host_is cookie_is client_is from

pub edit_same : (desk : Desk) (now after base : ℕ) (request : Request) (title : Title) (token text : Bytes) (client stranger : Client) (cookie : Option Cookie)
    → now ≡ after → cookie ≡ live_cookie now request → client ≡ client_of_cookie cookie stranger → stranger ≡ stranger_of desk.peer request.agent
    → (let edit : Edit = record { client = client; token = token; title = title; base = base; text = text } in edit) ≡ edit_for desk after request title base token text
edit_same desk now after base request title token text client stranger cookie now_is cookie_is client_is from =
    let kept : cookie ≡ live_cookie after request = cookie_is ∙ ap (λ (n : ℕ). live_cookie n request) now_is in
    let named : client ≡ client_for desk after request = client_is ∙ ap (λ (k : Option Cookie). client_of_cookie k stranger) kept ∙ ap (client_of_cookie (live_cookie after request)) from in
    ap (λ (c : Client). let edit : Edit = record { client = c; token = token; title = title; base = base; text = text } in edit) named

module _ {K S : Type 0} (content : K → Option (List Entry)) (faults : K → ℕ) (cache_of : S → CacheMap Bytes) where
  pub page_called : (desk : Desk) (old new : FarmParts K S) (sent_old sent_new : ℕ) (at : Readings) (lots lots_now : Option (Series ℕ)) (before now : WireSeen) (request : Request) (word : ℕ) (title : Title) (view : View) (a : CodeAnswer)
      → desk.pace ≡ old.plan.pace → request.call ≡ PageCall title → view ≡ view_for desk (moment_of (region_of request) (moments_at at old.moments)) request word title → Gives lots lots_now word
      → ServesAsked content faults cache_of old new sent_old sent_new at before now (AskedView view) (answer_of a)
      → DoesCallFor content faults cache_of desk old new sent_old sent_new at (outside_seen lots before.carried before.refused before.empty) (outside_seen lots_now now.carried now.refused now.empty) request (said.One a)
  page_called desk old new sent_old sent_new at lots lots_now before now request word title view a pace call_is view_is gives serves = (
    title,
    subst (λ (c : Call). IsAnswerTo c title (answer_of a)) (sym call_is) (page_answer view title (answer_of a) serves.own.fits),
    asked_called content faults cache_of desk old new sent_old sent_new at lots lots_now before now request (word ∷ []) (AskedView view) title (answer_of a) pace (lots_now, gives, refl) serves
        (λ service v w at_is words_is agrees one last outcome.
        subst (λ (c : Call). DoesCall desk request c service v w) (sym call_is) (
          word,
          words_is,
          subst (λ (what : Asked). ServesOne service.at desk.pace service.taken what v service.turns w)
              (ap AskedView (view_is ∙ ap (λ (n : ℕ). view_for desk n request word title) (moment_is content faults cache_of old v at request agrees ∙ ap (λ (t : Readings). moment_for v t request) (sym at_is)))) one,
          (answer_of a, last, outcome),
        )),
  )

  pub edit_called : (desk : Desk) (old new : FarmParts K S) (sent_old sent_new : ℕ) (at : Readings) (lots : Option (Series ℕ)) (before now : WireSeen) (request : Request) (title : Title) (base : ℕ) (token text : Bytes) (edit : Edit) (a : CodeAnswer)
      → desk.pace ≡ old.plan.pace → request.call ≡ EditCall title base token text → edit ≡ edit_for desk (moment_of (region_of request) (moments_at at old.moments)) request title base token text
      → ServesAsked content faults cache_of old new sent_old sent_new at before now (AskedEdit edit) (answer_of a)
      → DoesCallFor content faults cache_of desk old new sent_old sent_new at (outside_seen lots before.carried before.refused before.empty) (outside_seen lots now.carried now.refused now.empty) request (said.One a)
  edit_called desk old new sent_old sent_new at lots before now request title base token text edit a pace call_is edit_is serves = (
    title,
    subst (λ (c : Call). IsAnswerTo c title (answer_of a)) (sym call_is) refl,
    asked_called content faults cache_of desk old new sent_old sent_new at lots lots before now request [] (AskedEdit edit) title (answer_of a) pace refl serves
        (λ service v w at_is words_is agrees one last outcome.
        subst (λ (c : Call). DoesCall desk request c service v w) (sym call_is) (
          words_is,
          subst (λ (what : Asked). ServesOne service.at desk.pace service.taken what v service.turns w)
              (ap AskedEdit (edit_is ∙ ap (λ (n : ℕ). edit_for desk n request title base token text) (moment_is content faults cache_of old v at request agrees ∙ ap (λ (t : Readings). moment_for v t request) (sym at_is)))) one,
          (answer_of a, last, outcome),
        )),
  )

  -- a batch; its view is that of the first title, of which the farm's moment says the same as the world's
  pub batch_called : (desk : Desk) (old new : FarmParts K S) (sent_old sent_new : ℕ) (at : Readings) (lots lots_now : Option (Series ℕ)) (before now : WireSeen) (request : Request) (titles : List Title) (drawn : List Drawn) (first : Title) (word : ℕ) (view : View) (s : Said)
      → desk.pace ≡ old.plan.pace → request.call ≡ BatchCall titles → view ≡ view_for desk (moment_of (region_of request) (moments_at at old.moments)) request word first
      → first_of_list titles ≡ Some first → first_of_list (map word_of drawn) ≡ Some word → IsDrawn lots lots_now titles drawn
      → ServesBatch content faults cache_of old new sent_old sent_new at before now view (map pair_of drawn) (said_outcome first s)
      → DoesCallFor content faults cache_of desk old new sent_old sent_new at (outside_seen lots before.carried before.refused before.empty) (outside_seen lots_now now.carried now.refused now.empty) request s
  batch_called desk old new sent_old sent_new at lots lots_now before now request titles drawn first word view s pace call_is view_is first_is word_is is serves = by s
      (subst (λ (x : View). ServesBatch content faults cache_of old new sent_old sent_new at before now x (map pair_of drawn) (said_outcome first s)) view_is serves)
    where
      called : (outcome : Outcome) → ServesBatch content faults cache_of old new sent_old sent_new at before now (view_for desk (moment_of (region_of request) (moments_at at old.moments)) request word first) (map pair_of drawn) outcome
          → CalledFor content faults cache_of desk old new sent_old sent_new at (outside_seen lots before.carried before.refused before.empty) (outside_seen lots_now now.carried now.refused now.empty) request outcome
      called outcome done =
          let work = done.housework in
          let own = done.own in
          called_for content faults cache_of desk old done.middle new sent_old sent_new at lots lots_now before now request (map word_of drawn) (own.own ++ own.late) outcome (room_beside (steps.region_of (view_for desk (moment_of (region_of request) (moments_at at old.moments)) request word first)) (length (map pair_of drawn))) done.held pace is.words work own.made
          (λ start earlier v m w agrees splits kept middle goes.
          let same = moment_is content faults cache_of old v at request agrees in
          let (after, goes_own, goes_late) = goes_apart own.own own.late m w goes in
          let receivable = held_receivable v (room_beside (steps.region_of (view_for desk (moment_of (region_of request) (moments_at at old.moments)) request word first)) (length (map pair_of drawn))) work.taken work.at_once done.held splits in
          subst (λ (c : Call). DoesCall desk request c (service_with at (map word_of drawn) work.sent work.halted work.taken work.emptied (work.turns ++ (own.own ++ own.late)) outcome) v w) (sym call_is)
          (record {
            drawn = map pair_of drawn;
            title = first;
            word = word;
            titles_are = titles_drawn drawn ∙ is.titles_are;
            words_are = sym (words_drawn drawn);
            serves = record {
              carried = work.at_once;
              held = done.held;
              before = work.turns;
              own = own.own;
              late = own.late;
              middle = m;
              after = after;
              first = first_drawn drawn titles first word is.titles_are first_is word_is;
              split = subst (λ (k : ℕ). Splits v (room_beside (steps.region_of (view_for desk k request word first)) (length (map pair_of drawn))) work.taken work.at_once done.held) same splits;
              housekeeping = kept;
              makes = subst (λ (k : ℕ). Makes at (steps_to_round (view_for desk k request word first) (jobs_in (at_readings at m) (view_for desk k request word first) (map pair_of drawn) done.held)) own.own) same
                  (own.makes start earlier m middle (all_there v m done.held (quiet_house at desk.pace work.at_once v work.turns m kept) receivable));
              goes = goes_own;
              carried_late = own.carried_late;
              goes_on = goes_late;
              all = sym (append_assoc work.turns own.own own.late);
            };
            answered = own.answered;
          }))

      by : (x : Said) → ServesBatch content faults cache_of old new sent_old sent_new at before now (view_for desk (moment_of (region_of request) (moments_at at old.moments)) request word first) (map pair_of drawn) (said_outcome first x)
          → DoesCallFor content faults cache_of desk old new sent_old sent_new at (outside_seen lots before.carried before.refused before.empty) (outside_seen lots_now now.carried now.refused now.empty) request x
      by (said.One a) done = (first, subst (λ (c : Call). IsAnswerTo c first (answer_of a)) (sym call_is) (batch_answer titles first (answer_of a) done.own.fits), called (Answered first (answer_of a)) done)
      by (said.Many answers) done = called (Listed (answers_of answers.items)) done

  -- what a whole request leaves of the farm, whatever it was answered

  pub serves_shape : (old new : FarmParts K S) (sent_old sent_new : ℕ) (at : Readings) (before now : WireSeen) (asked : Asked) (a : Answer) → ServesAsked content faults cache_of old new sent_old sent_new at before now asked a → SameShape old new
  serves_shape old new sent_old sent_new at before now asked a serves = shapes old serves.middle new serves.housework.shape serves.own.made.shape

  pub serves_free : (old new : FarmParts K S) (sent_old sent_new : ℕ) (at : Readings) (before now : WireSeen) (asked : Asked) (a : Answer) → ServesAsked content faults cache_of old new sent_old sent_new at before now asked a → open_at old.requests 0 ≡ None → open_at new.requests 0 ≡ None
  serves_free old new sent_old sent_new at before now asked a serves none = serves.own.made.closed (serves.housework.closed none)

  pub serves_counts : (old new : FarmParts K S) (sent_old sent_new : ℕ) (at : Readings) (before now : WireSeen) (asked : Asked) (a : Answer) → ServesAsked content faults cache_of old new sent_old sent_new at before now asked a → faults old.keeper ≤ faults new.keeper
  serves_counts old new sent_old sent_new at before now asked a serves = let x = serves.housework.counts in let y = serves.own.made.counts in omega (arith, x, y)

  pub batch_shape : (old new : FarmParts K S) (sent_old sent_new : ℕ) (at : Readings) (before now : WireSeen) (view : View) (drawn : List (Title × ℕ)) (outcome : Outcome) → ServesBatch content faults cache_of old new sent_old sent_new at before now view drawn outcome → SameShape old new
  batch_shape old new sent_old sent_new at before now view drawn outcome serves = shapes old serves.middle new serves.housework.shape serves.own.made.shape

  pub batch_free : (old new : FarmParts K S) (sent_old sent_new : ℕ) (at : Readings) (before now : WireSeen) (view : View) (drawn : List (Title × ℕ)) (outcome : Outcome) → ServesBatch content faults cache_of old new sent_old sent_new at before now view drawn outcome → open_at old.requests 0 ≡ None → open_at new.requests 0 ≡ None
  batch_free old new sent_old sent_new at before now view drawn outcome serves none = serves.own.made.closed (serves.housework.closed none)

  pub batch_counts : (old new : FarmParts K S) (sent_old sent_new : ℕ) (at : Readings) (before now : WireSeen) (view : View) (drawn : List (Title × ℕ)) (outcome : Outcome) → ServesBatch content faults cache_of old new sent_old sent_new at before now view drawn outcome → faults old.keeper ≤ faults new.keeper
  batch_counts old new sent_old sent_new at before now view drawn outcome serves = let x = serves.housework.counts in let y = serves.own.made.counts in omega (arith, x, y)

  -- a request after its housekeeping, for which nothing was held
  pub serves_after : (old mid new : FarmParts K S) (sent_old sent_new : ℕ) (at : Readings) (before now : WireSeen) (asked : Asked) (room : ℕ) (messages : List Message) (result : Option CodeAnswer) (a : CodeAnswer) → result ≡ Some a → room ≡ 0 → length messages ≤ room
      → DoesHousework content faults cache_of old mid sent_old sent_new at before now room (all_taken messages)
      → MakesAnswer content faults cache_of mid new at asked (option_map answer_of result) → ServesAsked content faults cache_of old new sent_old sent_new at before now asked (answer_of a)
  serves_after old mid new sent_old sent_new at before now asked room messages result a is none few work made =
      record {
        middle = mid;
        housework =
            subst (λ (h : List Taken). DoesHousework content faults cache_of old mid sent_old sent_new at before now 0 h) (none_fits messages (subst (λ (n : ℕ). length messages ≤ n) none few))
            (subst (λ (n : ℕ). DoesHousework content faults cache_of old mid sent_old sent_new at before now n (all_taken messages)) none work);
        own = subst (λ (r : Option CodeAnswer). MakesAnswer content faults cache_of mid new at asked (option_map answer_of r)) is made;
      }
