-- The words by which options are chosen and written.
use Rattle.std.specs.Prelude.{ℕ, List, codes}
use Rattle.hash_rows.specs.declared.options.Amount.{Amount}
use Rattle.hash_rows.specs.declared.options.Amount.TheVariants.{Packets, Bytes}
use Rattle.hash_rows.specs.declared.options.Full.{Full}
use Rattle.hash_rows.specs.declared.options.Full.TheVariants.{Leave, Wait}
use Rattle.hash_rows.specs.declared.options.Mode.{Mode}
use Rattle.hash_rows.specs.declared.options.Mode.TheVariants.{Rounds, Threads}
use Rattle.hash_rows.specs.declared.options.Share.{Share}
use Rattle.hash_rows.specs.declared.options.Share.TheVariants.{Turn, Key}
use Rattle.hash_rows.specs.declared.options.Sketch.{Sketch}
use Rattle.hash_rows.specs.declared.options.Sketch.TheVariants.{CountMin, CountSketch, LogLog}

-- the name of a sketch
unfoldable pub sketch_text : Sketch → List ℕ
sketch_text CountMin = codes "count-min"
sketch_text CountSketch = codes "count-sketch"
sketch_text LogLog = codes "loglog"

-- the name of what a packet adds
unfoldable pub amount_text : Amount → List ℕ
amount_text Packets = codes "packets"
amount_text Bytes = codes "bytes"

-- the name of a way to share packets out
unfoldable pub share_text : Share → List ℕ
share_text Turn = codes "turn"
share_text Key = codes "key"

-- the name of what becomes of a push that meets a full lane
unfoldable pub full_text : Full → List ℕ
full_text Leave = codes "leave"
full_text Wait = codes "wait"

-- the name of a mode
unfoldable pub mode_text : Mode → List ℕ
mode_text Rounds = codes "rounds"
mode_text Threads = codes "threads"
