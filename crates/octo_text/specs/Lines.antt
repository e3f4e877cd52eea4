-- Lines and words that the report and the journal share.
use Rattle.std.specs.Prelude.{ℕ, List, ◌++◌, codes, decimal}
use Rattle.packet_key.specs.KeyText.{text_of}
use Rattle.packet_key.specs.declared.key.FlowKey.{FlowKey}
use Rattle.hash_rows.specs.declared.options.Sketch.{Sketch}
use Rattle.hash_rows.specs.declared.options.Amount.{Amount}
use Rattle.hash_rows.specs.declared.shape.Shape.{Shape}
use Rattle.hash_rows.specs.OptionTexts.{sketch_text, amount_text}

-- some words
unfoldable pub words_line : List ℕ → List ℕ
words_line words = words ++ codes "\n"

-- a name and a number
unfoldable pub count_line : List ℕ → ℕ → List ℕ
count_line name number = name ++ codes " " ++ decimal number ++ codes "\n"

-- a name and a key
unfoldable pub key_line : List ℕ → FlowKey → List ℕ
key_line name key = name ++ codes " " ++ text_of key ++ codes "\n"

-- the sketch, its shape, and what a packet adds to it
unfoldable pub sketch_words : Sketch → Shape → Amount → List ℕ
sketch_words sketch shape amount =
    codes "sketch " ++ sketch_text sketch
    ++ codes " rows " ++ decimal shape.rows
    ++ codes " columns " ++ decimal shape.columns
    ++ codes " amount " ++ amount_text amount
