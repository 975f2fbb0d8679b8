-- Why the tables did not give what was asked: out of memory stands apart from all that is a fault.
use Rattle.std.specs.Prelude.{Result, Ok, Err}
use Rattle.wiki_titles.specs.declared.title.TitleFault.{TitleFault}
use Rattle.wiki_titles.specs.declared.title.TitleFault.TheVariants.{Memory as TitleMemory}
use Rattle.wiki_titles.specs.declared.token.TokenFault.{TokenFault}
use Rattle.wiki_titles.specs.declared.token.TokenFault.TheVariants.{Memory as TokenMemory}
use Rattle.wiki_titles.specs.declared.text.TextFault.{TextFault}
use Rattle.wiki_titles.specs.declared.text.TextFault.TheVariants.{Memory as TextMemory}
use Rattle.sqlite.specs.declared.error.Error.{Error}
use Rattle.sqlite.specs.declared.error.Error.TheVariants.{SqliteFailure}
use Rattle.sqlite.specs.declared.error.ErrorCode.TheVariants.{OutOfMemory}
use Rattle.revision_keeper.specs.declared.keeper.KeepFault.{KeepFault}
use Rattle.revision_keeper.specs.declared.keeper.KeepFault.TheVariants.{Fault, Memory as KeepMemory}
use Rattle.sqlite_keeper.specs.declared.table_fault.TableFault.{TableFault}
use Rattle.sqlite_keeper.specs.declared.table_fault.TableFault.TheVariants.{Refused, Memory}

-- what the database says
abbrev pub fault_of : Error → TableFault
fault_of (SqliteFailure OutOfMemory) = Memory
fault_of _ = Refused

-- what the readers of titles, tokens and texts say

abbrev pub title_fault : TitleFault → TableFault
title_fault TitleMemory = Memory
title_fault _ = Refused

abbrev pub token_fault : TokenFault → TableFault
token_fault TokenMemory = Memory
token_fault _ = Refused

abbrev pub text_fault : TextFault → TableFault
text_fault TextMemory = Memory
text_fault _ = Refused

-- what a caller of the keeper is answered
abbrev pub keep_fault : TableFault → KeepFault
keep_fault Refused = Fault
keep_fault Memory = KeepMemory

abbrev pub answer_of : {T : Type 0} → Result T TableFault → Result T KeepFault
answer_of (Ok value) = Ok value
answer_of (Err fault) = Err (keep_fault fault)
