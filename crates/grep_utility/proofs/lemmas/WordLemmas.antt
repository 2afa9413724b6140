-- What a request asks for as pieces are added to it.
use Rattle.grep_utility.proofs.Prelude.{◌≡◌, List, ◌∷◌, Result, Ok, Err, MatchResult, refl, sym, ◌∙◌, ap, Text, Request, UsageFault, Asked, AreRead, Draft, OrMemory, Token, asked, reads_on, read, with_piece}

-- one more was added
pub piece_added : (d later : Draft) (p : Token) (ps all : List Token) → all ≡ p ∷ ps → with_piece d p ≡ Ok later → reads_on d all ≡ reads_on later ps
piece_added d later p ps all is added = ap (reads_on d) is ∙ rw (added, reads_on) refl

-- all words were added, and the request is complete
pub completes : (words : List Text) (now : Result Asked UsageFault) (r : Result Request UsageFault) → now ≡ read words → MatchResult r (λ request. now ≡ Ok (asked request)) (λ fault. OrMemory fault (now ≡ Err fault)) → AreRead words r
completes words now (Ok request) same h = sym same ∙ h
completes words now (Err fault) same h = rw same at h
