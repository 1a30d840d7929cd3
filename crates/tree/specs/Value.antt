-- The value of a record: payload length 8 bytes, digest 32, token 64, available length 8, and the origin, which is a kind of 1 byte and a session number of 8;
-- whole numbers big-endian.
use Rattle.std.specs.Prelude.{ℕ, ◌+◌, List, ◌∷◌, ◌++◌, Bool, ◌&&◌, drop, get_or, leb}
use Rattle.laws.specs.Lists.{piece}
use Rattle.data_model.specs.Origin.{is_origin}
use Rattle.keys.specs.Encode.{be}
use Rattle.keys.specs.Decode.{number}
use Rattle.tree.specs.declared.value.Value.{Value}

-- Where the digest, the token, the available length, the origin and its session number begin; the bytes of a value.
abbrev pub digest_at : ℕ
digest_at = 8

abbrev pub token_at : ℕ
token_at = digest_at + 32

abbrev pub available_at : ℕ
available_at = token_at + 64

abbrev pub origin_at : ℕ
origin_at = available_at + 8

abbrev pub session_at : ℕ
session_at = origin_at + 1

abbrev pub value_length : ℕ
value_length = session_at + 8

-- The nine bytes of an origin: its kind and its session number.
abbrev pub origin_bytes : (kind session : ℕ) → List ℕ
origin_bytes kind session = kind ∷ be 8 session

unfoldable pub value_bytes : Value → List ℕ
value_bytes v = be 8 v.payload_length ++ (v.payload_digest ++ (v.token ++ (be 8 v.available ++ origin_bytes v.kind v.session)))

unfoldable pub read_value : List ℕ → Value
read_value b = record {
  payload_length = number b;
  payload_digest = piece digest_at token_at b;
  token = piece token_at available_at b;
  available = number (drop available_at b);
  kind = get_or b origin_at 0;
  session = number (drop session_at b);
}

-- No more of the payload is available than there is, and kind and session number are those of an origin.
unfoldable pub is_value : Value → Bool
is_value v = leb v.available v.payload_length && is_origin v.kind v.session
