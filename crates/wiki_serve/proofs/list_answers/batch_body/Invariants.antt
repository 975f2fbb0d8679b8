use Rattle.std.proofs.Common.{◌≡◌, ◌+◌, ◌++◌, drop}
use Rattle.region_round.specs.AsModel.{answers_of}
use Rattle.wiki_serve.specs.Replies.{batch_body}
use Rattle.wiki_serve.proofs.list_answers.batch_body.Given as goal

abbrev pub invariant-loop-answer : goal.invariant-loop-answer
invariant-loop-answer l =
    (l.number ≡ l.answer-index)
    × (l.body.items ++ batch_body (l.answer-index + 1) (answers_of (drop l.answer-index l.answers)) ≡ batch_body 1 (answers_of l.answers))
