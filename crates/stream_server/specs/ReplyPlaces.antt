-- No public clause cites this module. What the reply places have for a message.
use Rattle.std.specs.Prelude.{ℕ, List, []}
use Rattle.stream_front.specs.Split.{framed}
use Rattle.stream_server.specs.declared.reply_places.Answer.{Answer}
use Rattle.stream_server.specs.declared.reply_places.Answer.TheVariants.{Nothing, Short, Long}
use Rattle.stream_server.specs.declared.reply_places.ReplyPlaces.{ReplyPlaces}

-- nothing, or the reply in its place behind its length
abbrev pub octets_at : ReplyPlaces → Answer → List ℕ
octets_at places Nothing = []
octets_at places Short = framed places.reply
octets_at places Long = framed places.long
