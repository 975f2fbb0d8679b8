-- What is remembered of the last answers once an entry is appended.
use Rattle.std.specs.Prelude.{◌≡◌, IfSome}
use Rattle.wiki_model.specs.History.{Entry, Beat, Committed}
use Rattle.sqlite_keeper.specs.declared.last_answers.LastAnswers.{LastAnswers}

-- Of a commit's title, its token and its client nothing older is remembered: only what this commit makes of them.
abbrev pub IsRenewed : Entry → LastAnswers → Type 0
IsRenewed (Beat stamp) answers = Unit {0}
IsRenewed (Committed c) answers =
    IfSome answers.title (λ known. known.title ≡ c.edit.title)
    × IfSome answers.token (λ known. (known.client ≡ c.edit.client) × (known.token ≡ c.edit.token))
    × IfSome answers.writes (λ known.
    (known.client ≡ c.edit.client) × (known.writes.count ≡ c.index) × (known.writes.stamp ≡ c.stamp))
