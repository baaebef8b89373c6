-- The lines of digests (our own rule), each in hexadecimal digits, lower case. Each line ends with one newline byte.
use Rattle.std.specs.Prelude.{ℕ, List, ◌++◌, codes, decimal}
use Rattle.hex.specs.Hex.{encode_lower}

-- the digest of a picture: the event after which it is displayed, its width, its height
unfoldable pub frame_sum_line : (event : ℕ) → (shape : ℕ × ℕ) → (digest : List ℕ) → List ℕ
frame_sum_line event shape digest =
    decimal event ++ (codes " " ++ (decimal shape.0 ++ (codes " " ++ (decimal shape.1
    ++ (codes " " ++ (encode_lower digest ++ codes "\n"))))))

-- the digest of all cells of video memory
unfoldable pub vram_sum_line : (digest : List ℕ) → List ℕ
vram_sum_line digest = codes "vram " ++ (encode_lower digest ++ codes "\n")
