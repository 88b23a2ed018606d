-- The filters that encode, and those that make digests.
use Rattle.std.specs.Prelude.{ℕ, nat_lt, bit_xor, List, [], ◌++◌, length, drop, map, replicate}
use Rattle.std.specs.Prelude.{Result, Ok, Err, if◌then◌else◌}
use Rattle.std.specs.Str.{is_utf8}
use Rattle.base64.specs.Engines.{standard}
use Rattle.base64.specs.GeneralPurpose.{decode_of, encode_of}
use Rattle.base64.specs.declared.decode.DecodeError.{DecodeError}
use Rattle.hex.specs.Hex.{encode_lower}
use Rattle.md5.specs.Md5.{md5}
use Rattle.sha1.specs.Sha1.{sha1}
use Rattle.sha2.specs.Sha256.{sha256}
use Rattle.liquid_model.specs.Data.{Datum, text, text_of}
use Rattle.liquid_model.specs.Texts.{Text}
use Rattle.liquid_model.specs.declared.error.ErrorKind.TheVariants.{InvalidInput}
use Rattle.liquid_model.specs.Arguments.{Answer, text_or}
use Rattle.liquid_json.specs.ScriptTexts.{script_json}

-- `base64_encode`: RFC 4648 with padding
abbrev pub encode_answer : Datum → Answer
encode_answer d = Ok (text (encode_of standard (text_of d)))

-- bytes that are UTF-8 are a text
abbrev pub decoded_text : List ℕ → Answer
decoded_text bytes = if is_utf8 bytes then Ok (text bytes) else Err InvalidInput

abbrev pub decoded : Result (List ℕ) DecodeError → Answer
decoded (Ok bytes) = decoded_text bytes
decoded (Err e) = Err InvalidInput

-- `base64_decode`
abbrev pub decode_answer : Datum → Answer
decode_answer d = decoded (decode_of standard (text_of d))

-- `json`
abbrev pub json_answer : Datum → Answer
json_answer d = Ok (text (script_json d))

-- `md5`, `sha1`, `sha256`: digests in hexadecimal, in lower case
abbrev pub md5_answer : Datum → Answer
md5_answer d = Ok (text (encode_lower (md5 (text_of d))))

abbrev pub sha1_answer : Datum → Answer
sha1_answer d = Ok (text (encode_lower (sha1 (text_of d))))

abbrev pub sha256_answer : Datum → Answer
sha256_answer d = Ok (text (encode_lower (sha256 (text_of d))))

-- each byte of a key with a mask
abbrev pub masked : ℕ → List ℕ → List ℕ
masked mask key = map (λ b. bit_xor b mask) key

-- the digest of a message after the key's block of 64 bytes, masked
-- Where the key has no byte more, the mask stands alone.
abbrev pub masked_digest : List ℕ → ℕ → List ℕ → List ℕ
masked_digest key mask message =
    sha256 ((masked mask key ++ drop (length key) (replicate 64 mask)) ++ message)

-- the code under a key of one block at most
abbrev pub code_by : List ℕ → List ℕ → List ℕ
code_by key message = masked_digest key 92 (masked_digest key 54 message)

-- the code of RFC 2104 over SHA-256; a key of more than 64 bytes counts by its digest
abbrev pub hmac : List ℕ → List ℕ → List ℕ
hmac key message = if nat_lt 64 (length key) then code_by (sha256 key) message else code_by key
    message

-- `hmac_sha256`: the argument is the key
abbrev pub hmac_sha256_answer : Datum → List Datum → Answer
hmac_sha256_answer d args = Ok (text (encode_lower (hmac (text_or [] args) (text_of d))))
