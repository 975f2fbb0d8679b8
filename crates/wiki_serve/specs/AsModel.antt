-- The values of the code as those of the definitions.
use Rattle.wiki_serve.specs.declared.connection.ConnEnd.{ConnEnd}
use Rattle.wiki_serve.specs.declared.connection.ConnEnd.TheVariants as ended
use Rattle.wiki_serve.specs.Connections.{End, Closed, CutOff, ReadFault, WriteFault, Ended, Enough, Memory}

abbrev pub end_of : ConnEnd → End
end_of ended.Closed = Closed
end_of ended.Cut = CutOff
end_of ended.ReadFault = ReadFault
end_of ended.WriteFault = WriteFault
end_of ended.Ended = Ended
end_of ended.Enough = Enough
end_of ended.Memory = Memory
