-- Reading a path's bytes, and a key's, back: what an encoder writes is taken, all else is refused with 5.
use Rattle.std.specs.Prelude.{ℕ, zero, suc, ◌+◌, ◌-◌, ◌*◌, min, List, [], ◌∷◌, ◌++◌, Bool, true, false, cond, length, take, drop, replicate, eqb, Result, Ok, Err}
use Rattle.data_model.specs.Path.{Figures, capacity, Component, Components, path_of}
use Rattle.keys.specs.Encode.{escaped, Triple}
use Rattle.data_model.specs.Said.{Said, refuses, says}
use Rattle.data_model.specs.Refusal.{no_key, refusal_number}
use Rattle.data_model.specs.declared.answer.Refusal.{Refusal}
use Rattle.data_model.specs.declared.parameters.Subspace.{Subspace}
use Rattle.keys.specs.declared.token.Token.{Token}
use Rattle.keys.specs.declared.token.Token.TheVariants as token
use Rattle.keys.specs.declared.decode.Next.{Next}
use Rattle.keys.specs.declared.decode.Next.TheVariants as next
use Rattle.keys.specs.declared.decode.PathRead.{PathRead}
use Rattle.keys.specs.declared.decode.EntryKey.{EntryKey}

-- What stands at a position of a path's bytes: a byte of a component, or an end.
pub data Symbol : Type 0 where
  byte : ℕ → Symbol
  component_mark : Symbol
  path_mark : Symbol

-- What each case of a token says.
abbrev pub token_says : Token → Symbol
token_says (token.Byte b) = byte b
token_says token.ComponentEnd = component_mark
token_says token.PathEnd = path_mark

-- The escape table of a 00, by the byte behind it: 00 00 ends a path, 00 01 a component, 00 02 is the byte 00. Else 5.
unfoldable pub mark : ℕ → Said Symbol
mark zero = says path_mark
mark (suc zero) = says component_mark
mark (suc (suc zero)) = says (byte 0)
mark (suc (suc (suc m))) = refuses no_key

-- What stands at the front: a byte that is not 00 is itself, a 00 goes by the byte behind it. At the end stands nothing: 5.
unfoldable pub token_of : List ℕ → Said Symbol
token_of [] = refuses no_key
token_of (suc b ∷ k) = says (byte (suc b))
token_of (zero ∷ []) = refuses no_key
token_of (zero ∷ m ∷ k) = mark m

-- Whether a path ends.
unfoldable pub ends_path : Said Symbol → Bool
ends_path (refuses n) = false
ends_path (says (byte b)) = false
ends_path (says component_mark) = false
ends_path (says path_mark) = true

-- What was read and how many bytes it took; or refused.
pub data Taken (A : Type 0) : Type 0 where
  refused : Taken A
  took : A → ℕ → Taken A

-- What was read behind n bytes more, which f puts before it.
unfoldable pub more : {A : Type 0} → (A → A) → ℕ → Taken A → Taken A
more f n refused = refused
more f n (took a u) = took (f a) (n + u)

-- What is read behind something that was read; refused if that was.
unfoldable pub bind : {A B : Type 0} → Taken A → (A → ℕ → Taken B) → Taken B
bind refused f = refused
bind (took a u) f = f a u

-- Whether something was read.
unfoldable pub was_read : {A : Type 0} → Taken A → Bool
was_read refused = false
was_read (took a u) = true

-- What a component's reading does with the token that it meets: an end ends it, behind a byte it goes on, all else is refused.
unfoldable pub by_token : Said Symbol → (ℕ → Taken Component) → Taken Component
by_token (refuses n) on = refused
by_token (says (byte b)) on = on b
by_token (says component_mark) on = took [] 2
by_token (says path_mark) on = refused

-- A component of at most lim bytes and its end, token by token.
unfoldable pub read_component : ℕ → List ℕ → Taken Component
read_component zero k = by_token (token_of k) (λ b. refused)
read_component (suc lim) k = by_token (token_of k) (λ b. more (b ∷◌) (length (escaped b)) (read_component lim (drop (length (escaped b)) k)))

-- A path of at most n components of at most mcl bytes each and room bytes in all, and its end.
unfoldable pub read_components : ℕ → ℕ → ℕ → List ℕ → Taken Components
read_components mcl room zero k = cond (ends_path (token_of k)) (took [] 2) refused
read_components mcl room (suc n) k =
    cond (ends_path (token_of k)) (took [] 2)
    (bind (read_component (min mcl room) k) (λ c u. more (c ∷◌) u (read_components mcl (room - length c) n (drop u k))))

-- A path within the figures, and its end.
unfoldable pub read_path : Figures → List ℕ → Taken Components
read_path f k = read_components f.mcl f.mpl f.mcc k

-- The number of bytes that follow those of n, big-endian.
unfoldable pub number_from : ℕ → List ℕ → ℕ
number_from n [] = n
number_from n (b ∷ bs) = number_from (n * 256 + b) bs

-- The number in the first 8 bytes, and the subspace in the first 16.
unfoldable pub number : List ℕ → ℕ
number k = number_from 0 (take 8 k)

unfoldable pub subspace_at : List ℕ → Subspace
subspace_at k = record { high = number k; low = number (drop 8 k) }

-- A key is taken whole: its path with what stands before and after it are all of its bytes.
unfoldable pub whole : (before after len : ℕ) → (Components → ℕ → Triple) → Taken Components → Taken Triple
whole before after len f t = bind t (λ cs u. cond (eqb (before + u + after) len) (took (f cs u) len) refused)

-- The path is read from byte 16 on, the timestamp behind it.
unfoldable pub read_spt : Figures → List ℕ → Taken Triple
read_spt f k =
    whole 16 8 (length k) (λ cs u. record { subspace = subspace_at k; path = cs; timestamp = number (drop (16 + u) k) })
    (read_path f (drop 16 k))

-- The timestamp, the subspace from byte 8 on, and the path from byte 24 on.
unfoldable pub read_tsp : Figures → List ℕ → Taken Triple
read_tsp f k =
    whole 24 0 (length k) (λ cs u. record { subspace = subspace_at (drop 8 k); path = cs; timestamp = number k })
    (read_path f (drop 24 k))

-- What a decoder of keys answers: 5, or what was read.
unfoldable pub decoded : Taken Triple → Said EntryKey
decoded refused = refuses no_key
decoded (took t u) = says (record { subspace = t.subspace; path = path_of t.path; timestamp = t.timestamp })

-- What the decoder of a path that begins at a position answers: 5, or the path and the position behind it.
unfoldable pub path_read : ℕ → Taken Components → Said PathRead
path_read at refused = refuses no_key
path_read at (took cs u) = says (record { path = path_of cs; next = at + u })

-- A step in a path: a component, its length and the position behind it; or the position behind the path's end.
pub data Step : Type 0 where
  component : (len position : ℕ) → Step
  end_of_path : (position : ℕ) → Step

-- A step's answer, with the component's bytes.
pub record StepRead : Type 0 where
  pub next : Said Step
  pub bytes : List ℕ

-- What is answered where the next component is read, and what its bytes are: 0 where none was read.
unfoldable pub component_says : Result Next Refusal → StepRead
component_says (Ok (next.Component bytes len n)) = record { next = says (component len n); bytes = bytes }
component_says (Ok (next.PathEnd n)) = record { next = says (end_of_path n); bytes = replicate capacity.mcl 0 }
component_says (Err r) = record { next = refuses (refusal_number r); bytes = replicate capacity.mcl 0 }

-- The next component and the position behind it, or the path's end. Refused, the bytes are 0.
unfoldable pub next_component : ℕ → Taken Component → StepRead
next_component at refused = record { next = refuses no_key; bytes = replicate capacity.mcl 0 }
next_component at (took c u) = record { next = says (component (length c) (at + u)); bytes = c ++ replicate (capacity.mcl - length c) 0 }

unfoldable pub component_read : Figures → ℕ → List ℕ → StepRead
component_read f at k =
    cond (ends_path (token_of k)) (record { next = says (end_of_path (at + 2)); bytes = replicate capacity.mcl 0 })
    (next_component at (read_component f.mcl k))
