-- 01's starred examples, whole, in one table, and that the definition gives each row.
use Rattle.std.specs.Prelude.{ℕ, Bool, ◌&&◌, List, [], ◌∷◌, ◌++◌, T, eqb, length}
use Prim.Native.String as S
use Rattle.shinri_core.specs.Lists.{every, same_list}
use Rattle.shinri_core.specs.Unfolding.{core_definitions}
use Rattle.theory.specs.Unfolding.{theory_definitions}
use Rattle.solver.specs.State.{state_definitions}
use Rattle.solver.specs.Records.{records_definitions}
use Rattle.solver.specs.Rules.{rules_definitions}
use Rattle.solver.specs.Ring.{ring_definitions}
use Rattle.solver.specs.Check.{check_definitions}
use Rattle.session.specs.Text.{bytes, text_definitions}
use Rattle.session.specs.Line.{line_definitions}
use Rattle.session.specs.Answer.{answer_definitions}
use Rattle.session.specs.Session.{session_definitions}
use Rattle.session.specs.Run.{Ran, run, result_number, program_sizes, run_definitions}

-- everything that a run computes with
unfoldable pub definitions : Unit {0}
unfolding core_definitions theory_definitions state_definitions records_definitions rules_definitions ring_definitions check_definitions text_definitions line_definitions answer_definitions session_definitions run_definitions
definitions = tt

-- a script, its answers, the result, the counts of lines answered and bytes written
pub record Example : Type 0 where
  pub script : S.String
  pub answers : S.String
  pub result : ℕ
  pub lines : ℕ
  pub bytes_written : ℕ

unfoldable pub gives : Example → Ran → Bool
gives e r =
    same_list r.written (bytes e.answers)
    && eqb (result_number r.ending) e.result
    && eqb r.answered e.lines
    && eqb (length r.written) e.bytes_written

unfoldable pub holds : Example → Bool
holds e = gives e (run program_sizes (bytes e.script))

pub examples : List Example
examples =
    -- ★1
    record {
      script = "sort=d\nctor=1\nctor=1,1\nfun=1\nclose=1\nterm=5\nterm=2,0\neq=0,1\nvar=0,2\nequate=0\ncheck=1\n";
      answers = "ok=1\nok=1\nok=1\nok=1\nok=1\nterm=0\nterm=1\nterm=2\nok=1\nok=1\nconflict=a0\n";
      result = 0;
      lines = 11;
      bytes_written = 68;
    }
    -- ★2
    ∷ record {
      script = "sort=d\nctor=1\nctor=1,1\nfun=1\nclose=1\nterm=0\nterm=5\nterm=2,1\neq=0,2\nvar=0,3\nequate=0\ncheck=1\n";
      answers = "ok=1\nok=1\nok=1\nok=1\nok=1\nterm=0\nterm=1\nterm=2\nterm=3\nok=1\nok=1\nconflict=a0\n";
      result = 0;
      lines = 12;
      bytes_written = 75;
    }
    -- ★3
    ∷ record {
      script = "sort=d\nctor=1\nctor=1,1\nfun=1\nclose=1\nterm=0\nterm=5\nterm=2,1\neq=0,2\nvar=0,3\npush=1\nequate=0\npop=0\ncheck=1\ncheck=1\n";
      answers = "ok=1\nok=1\nok=1\nok=1\nok=1\nterm=0\nterm=1\nterm=2\nterm=3\nok=1\nok=1\nok=1\nok=1\nsplit=4,5;;1,-\nunknown=1\n";
      result = 0;
      lines = 15;
      bytes_written = 98;
    }
    -- ★4
    ∷ record {
      script = "sort=d\nctor=1\nctor=1,1\nfun=1\nclose=1\nterm=5\nterm=1,0\nvar=0,1\nassert=0\ncheck=1\ncheck=1\ncheck=1\n";
      answers = "ok=1\nok=1\nok=1\nok=1\nok=1\nterm=0\nterm=1\nok=1\nok=1\nsplit=3;1;\nsplit=1,4;;1,-\nunknown=1\n";
      result = 0;
      lines = 12;
      bytes_written = 85;
    }
    -- ★5
    ∷ record {
      script = "sort=d\nctor=1\nctor=1,1\nfun=1\nclose=1\nterm=5\nterm=1,0\nvar=0,1\nassert=1\ncheck=1\n";
      answers = "ok=1\nok=1\nok=1\nok=1\nok=1\nterm=0\nterm=1\nok=1\nok=1\nsplit=1,2;;1,-\n";
      result = 0;
      lines = 10;
      bytes_written = 64;
    }
    -- ★6
    ∷ record {
      script = "sort=d\nctor=1\nctor=1,1\nfun=1\nfun=1\nclose=1\nterm=5\nterm=6\nterm=2,0\nterm=2,1\neq=2,3\nvar=0,4\nequate=0\ncheck=1\n";
      answers = "ok=1\nok=1\nok=1\nok=1\nok=1\nok=1\nterm=0\nterm=1\nterm=2\nterm=3\nterm=4\nok=1\nok=1\nsplit=7;;\n";
      result = 0;
      lines = 14;
      bytes_written = 85;
    }
    -- ★7
    ∷ record {
      script = "sort=d\nctor=1\nctor=1,1\nfun=1\nclose=1\ncheck=1\n";
      answers = "ok=1\nok=1\nok=1\nok=1\nok=1\nsat=1\n";
      result = 0;
      lines = 6;
      bytes_written = 31;
    }
    -- ★8
    ∷ record {
      script = "";
      answers = "";
      result = 0;
      lines = 0;
      bytes_written = 0;
    }
    -- ★9
    ∷ record {
      script = "sort=d\nctor=1\nctor=1,1\nfun=1\nclose=1\nterm=5\neq=0,0\n";
      answers = "ok=1\nok=1\nok=1\nok=1\nok=1\nterm=0\nrefused=6\n";
      result = 0;
      lines = 7;
      bytes_written = 42;
    }
    -- ★10
    ∷ record {
      script = "sort=d\nctor=1,1\nclose=1\n";
      answers = "ok=1\nok=1\nrefused=10\n";
      result = 0;
      lines = 3;
      bytes_written = 21;
    }
    ∷ []

pub starred : T (every holds examples)
unfolding definitions gives holds examples
starred = tt

-- lines that fail several questions, or do not read: the first no decides
pub refusals : Example
refusals = record {
  script =
      "sort=d\nctor=1\nctor=1,1\nfun=0\ncheck=2\nterm=99\nctor=0,9\nsort=x\nsort\n\nfun=01\nfun=4294967296\nfun=0,0,0,0,0,0,0,0,0,0,0,0,0,0,0,0,0,0\nclose=1\nsort=d\neq=0,0\nterm=0\nvar=2000,0\nterm=5\nvar=0,1\nvar=0,0\nequate=3\nequate=1\ncong=0,9\ncong=0,1\niface=0,9,65536,0\niface=0,1,65535,0\npush=2\ncheck=1";
  answers =
      "ok=1\nok=1\nok=1\nok=1\nrefused=3\nrefused=4\nrefused=5\nrefused=3\nrefused=3\nrefused=3\nrefused=3\nrefused=3\nrefused=3\nok=1\nrefused=4\nrefused=5\nterm=0\nrefused=5\nterm=1\nok=1\nrefused=6\nrefused=5\nrefused=8\nrefused=5\nrefused=9\nrefused=3\nrefused=6\nrefused=3\nsat=1\n";
  result = 0;
  lines = 29;
  bytes_written = 250;
}

pub first_no_decides : T (holds refusals)
unfolding definitions gives holds refusals
first_no_decides = tt

-- an idle `pop` is accepted: at or above the level count it changes nothing
pub idle_pops : Example
idle_pops = record {
  script = "sort=d\nctor=1\nclose=1\npop=0\npush=1\npop=1\npop=7\n";
  answers = "ok=1\nok=1\nok=1\nok=1\nok=1\nok=1\nok=1\n";
  result = 0;
  lines = 7;
  bytes_written = 35;
}

pub idle_pops_accepted : T (holds idle_pops)
unfolding definitions gives holds idle_pops
idle_pops_accepted = tt

-- 02 (i): a table of negative testers. The same lines stand before each row: x, y, zero, the successors of y and of zero; as the atoms
-- of variables x = zero (0), x = the successor of y (1), x = the successor of zero (7), is x zero? (2 and 4), is x a successor? (3),
-- y = zero (5), is y zero? (6).
unfoldable pub setting : S.String
setting = "sort=d\nctor=1\nctor=1,1\nfun=1\nfun=1\nclose=1\nterm=5\nterm=6\nterm=0\nterm=2,1\nterm=2,2\neq=0,2\neq=0,3\neq=0,4\nterm=1,0\nterm=3,0\neq=1,2\nterm=1,1\nvar=0,5\nvar=1,6\nvar=2,8\nvar=3,9\nvar=4,8\nvar=5,10\nvar=6,11\nvar=7,7\n"

-- their answers
unfoldable pub setting_answers : S.String
setting_answers = "ok=1\nok=1\nok=1\nok=1\nok=1\nok=1\nterm=0\nterm=1\nterm=2\nterm=3\nterm=4\nterm=5\nterm=6\nterm=7\nterm=8\nterm=9\nterm=10\nterm=11\nok=1\nok=1\nok=1\nok=1\nok=1\nok=1\nok=1\nok=1\n"

-- the lines of a row, and their answers
pub record Row : Type 0 where
  pub script : S.String
  pub answers : S.String

unfoldable pub row_holds : Row → Bool
row_holds r =
    same_list (run program_sizes (bytes setting ++ bytes r.script)).written (bytes setting_answers ++ bytes r.answers)

pub negatives : List Row
negatives =
    -- at its `assert`: the literal, then the term explained to the application
    record { script = "equate=0\nassert=5\n"; answers = "ok=1\nconflict=a5,a0\n" }
    -- that `assert` is accepted, and its entry stays
    ∷ record { script = "equate=0\nassert=5\ncheck=1\n"; answers = "ok=1\nconflict=a5,a0\nconflict=a5,a0\n" }
    -- in the check
    ∷ record { script = "assert=5\nequate=0\ncheck=1\n"; answers = "ok=1\nok=1\nconflict=a5,a0\n" }
    -- an application of another constructor is no conflict
    ∷ record { script = "equate=0\nassert=7\n"; answers = "ok=1\nok=1\n" }
    -- both signs of an atom are no conflict by themselves
    ∷ record { script = "assert=4\nassert=5\n"; answers = "ok=1\nok=1\n" }
    -- nor in a check: instantiation answers
    ∷ record { script = "assert=4\nassert=5\ncheck=1\n"; answers = "ok=1\nok=1\nsplit=5;5;\n" }
    -- each stands in a record of its own: the negative one is there though the positive one was first, and the other way round
    ∷ record { script = "assert=4\nassert=5\nequate=0\ncheck=1\n"; answers = "ok=1\nok=1\nok=1\nconflict=a5,a0\n" }
    ∷ record { script = "assert=5\nassert=4\nequate=2\ncheck=1\n"; answers = "ok=1\nok=1\nok=1\nconflict=a4,a2\n" }
    -- the lowest application of its constructor, which is not the lowest of the class
    ∷ record { script = "equate=0\nequate=2\nassert=7\n"; answers = "ok=1\nok=1\nconflict=a7,a2\n" }
    -- the lowest of two applications of its constructor
    ∷ record { script = "equate=14\nequate=2\nassert=7\n"; answers = "ok=1\nok=1\nconflict=a7,a2\n" }
    -- after constructor clash
    ∷ record { script = "assert=5\nequate=0\nequate=2\ncheck=1\n"; answers = "ok=1\nok=1\nok=1\nconflict=a0,a2\n" }
    -- after tester clash, though asserted before it
    ∷ record { script = "assert=5\nassert=6\nequate=0\ncheck=1\n"; answers = "ok=1\nok=1\nok=1\nconflict=a6,a0\n" }
    -- before injectivity, which makes no selector then: term 12 is new
    ∷ record { script = "assert=7\nequate=2\nequate=14\ncheck=1\nterm=4,4\n"; answers = "ok=1\nok=1\nok=1\nconflict=a7,a2\nterm=12\n" }
    -- in order of assertion
    ∷ record { script = "assert=13\nassert=5\nequate=0\nequate=10\ncheck=1\n"; answers = "ok=1\nok=1\nok=1\nok=1\nconflict=a13,a10\n" }
    -- a negative literal of an equation gives no entry
    ∷ record { script = "assert=1\nequate=0\ncheck=1\n"; answers = "ok=1\nok=1\nsplit=12;;\n" }
    -- taken back by `pop`: the tester lemma answers
    ∷ record { script = "push=1\nassert=5\npop=0\nequate=0\ncheck=1\n"; answers = "ok=1\nok=1\nok=1\nok=1\nsplit=12;;\n" }
    -- not taken back by a `pop` to its level
    ∷ record { script = "assert=5\npush=1\npop=0\nequate=0\ncheck=1\n"; answers = "ok=1\nok=1\nok=1\nok=1\nconflict=a5,a0\n" }
    -- the literal that first asserted an atom
    ∷ record { script = "assert=9\nassert=5\nequate=0\ncheck=1\n"; answers = "ok=1\nok=1\nok=1\nconflict=a9,a0\n" }
    -- not taken back with a later assertion of the same atom
    ∷ record { script = "push=1\nassert=5\npush=1\nassert=9\npop=1\nequate=0\ncheck=1\n"; answers = "ok=1\nok=1\nok=1\nok=1\nok=1\nok=1\nconflict=a5,a0\n" }
    -- asserted again after `pop`: it stands at the end
    ∷ record { script = "push=1\nassert=5\npop=0\nassert=13\nassert=5\nequate=0\nequate=10\ncheck=1\n"; answers = "ok=1\nok=1\nok=1\nok=1\nok=1\nok=1\nok=1\nconflict=a13,a10\n" }
    -- asserted again after `pop`, by another variable
    ∷ record { script = "push=1\nassert=5\npop=0\nassert=9\nequate=0\ncheck=1\n"; answers = "ok=1\nok=1\nok=1\nok=1\nok=1\nconflict=a9,a0\n" }
    ∷ []

pub negatives_shown : T (every row_holds negatives)
unfolding definitions setting setting_answers row_holds negatives
negatives_shown = tt

-- 02 (ii): a table of signatures, each row a whole script
unfoldable pub closing_holds : Row → Bool
closing_holds r = same_list (run program_sizes (bytes r.script)).written (bytes r.answers)

pub closings : List Row
closings =
    -- a node over a list of nodes: the empty list gives a first tree
    record { script = "sort=d\nsort=d\nctor=1,2\nctor=2\nctor=2,1,2\nclose=1\n"; answers = "ok=1\nok=1\nok=1\nok=1\nok=1\nok=1\n" }
    -- a node over a list that is never empty
    ∷ record { script = "sort=d\nsort=d\nctor=1,2\nctor=2,1,2\nclose=1\n"; answers = "ok=1\nok=1\nok=1\nok=1\nrefused=10\n" }
    -- found in three rounds, against the order of the datatypes and with it
    ∷ record {
      script = "sort=d\nsort=d\nsort=d\nctor=1,2\nctor=2,3\nctor=3\nclose=1\n";
      answers = "ok=1\nok=1\nok=1\nok=1\nok=1\nok=1\nok=1\n";
    }
    ∷ record {
      script = "sort=d\nsort=d\nsort=d\nctor=1\nctor=2,1\nctor=3,2\nclose=1\n";
      answers = "ok=1\nok=1\nok=1\nok=1\nok=1\nok=1\nok=1\n";
    }
    -- five that need each other, one of which has a constructor without fields
    ∷ record {
      script = "sort=d\nsort=d\nsort=d\nsort=d\nsort=d\nctor=1,2\nctor=2,3\nctor=3,4\nctor=4,5\nctor=5,1\nctor=5\nclose=1\n";
      answers = "ok=1\nok=1\nok=1\nok=1\nok=1\nok=1\nok=1\nok=1\nok=1\nok=1\nok=1\nok=1\n";
    }
    -- none of which has one; a refused `close` closes nothing, so it can be declared then
    ∷ record {
      script = "sort=d\nsort=d\nsort=d\nsort=d\nsort=d\nctor=1,2\nctor=2,3\nctor=3,4\nctor=4,5\nctor=5,1\nclose=1\nctor=3,0\nclose=1\n";
      answers = "ok=1\nok=1\nok=1\nok=1\nok=1\nok=1\nok=1\nok=1\nok=1\nok=1\nrefused=10\nok=1\nok=1\n";
    }
    -- all fields of a constructor have to be of datatypes that were found
    ∷ record {
      script = "sort=d\nsort=d\nsort=d\nctor=1\nctor=2,1,3\nctor=3,2\nclose=1\n";
      answers = "ok=1\nok=1\nok=1\nok=1\nok=1\nok=1\nrefused=10\n";
    }
    ∷ record {
      script = "sort=d\nsort=d\nsort=d\nctor=1,2,3\nctor=2\nctor=3,2,3\nclose=1\n";
      answers = "ok=1\nok=1\nok=1\nok=1\nok=1\nok=1\nrefused=10\n";
    }
    -- its other constructor is tried too
    ∷ record {
      script = "sort=d\nsort=d\nctor=1,1,2\nctor=1,2\nctor=2,1\nctor=2,0\nclose=1\n";
      answers = "ok=1\nok=1\nok=1\nok=1\nok=1\nok=1\nok=1\n";
    }
    -- a datatype without constructors, also one that no field is of
    ∷ record { script = "sort=d\nsort=d\nctor=1,2\nclose=1\n"; answers = "ok=1\nok=1\nok=1\nrefused=10\n" }
    ∷ record { script = "sort=d\nsort=d\nctor=1\nclose=1\nctor=2,1\nclose=1\n"; answers = "ok=1\nok=1\nok=1\nrefused=10\nok=1\nok=1\n" }
    -- a function is no constructor
    ∷ record { script = "sort=d\nfun=1\nclose=1\n"; answers = "ok=1\nok=1\nrefused=10\n" }
    -- Bool and a sort that is no datatype, and each of them alone
    ∷ record { script = "sort=u\nsort=d\nctor=2,1\nclose=1\n"; answers = "ok=1\nok=1\nok=1\nok=1\n" }
    ∷ record { script = "sort=d\nctor=1,0\nclose=1\n"; answers = "ok=1\nok=1\nok=1\n" }
    ∷ record { script = "sort=d\nsort=u\nctor=1,0,2\nclose=1\n"; answers = "ok=1\nok=1\nok=1\nok=1\n" }
    -- no datatype
    ∷ record { script = "sort=u\nfun=1\nclose=1\n"; answers = "ok=1\nok=1\nok=1\n" }
    -- lines go on: the lemma hands out the testers of a datatype that is found in the second round
    ∷ record {
      script = "sort=d\nsort=d\nctor=1,2\nctor=1,1\nctor=2\nfun=1\nclose=1\nterm=8\ncheck=1\nterm=1,0\nvar=0,1\ncheck=1\n";
      answers = "ok=1\nok=1\nok=1\nok=1\nok=1\nok=1\nok=1\nterm=0\nsat=1\nterm=1\nok=1\nsplit=1,2;;-,-\n";
    }
    ∷ []

pub closings_shown : T (every closing_holds closings)
unfolding definitions closing_holds closings
closings_shown = tt

-- 02 (iii): a table of unequal terms, behind the same lines as that of negative testers
pub unequals : List Row
unequals =
    -- the sides become equal by `equate` after the line: the literal, then the first side explained to the second
    record { script = "differ=1\nequate=0\ncheck=1\n"; answers = "ok=1\nok=1\nconflict=a1,a0\n" }
    -- they are equal before the line, which is accepted
    ∷ record { script = "equate=0\ndiffer=1\ncheck=1\n"; answers = "ok=1\nok=1\nconflict=a1,a0\n" }
    -- by `cong`
    ∷ record {
      script = "eq=3,4\nvar=8,12\ndiffer=17\nequate=10\ncong=3,4\ncheck=1\n";
      answers = "term=12\nok=1\nok=1\nok=1\nok=1\nconflict=a17,a10\n";
    }
    -- by `iface`
    ∷ record { script = "differ=1\niface=0,2,3,7\ncheck=1\n"; answers = "ok=1\nok=1\nconflict=a1,i3.7\n" }
    -- through a third term
    ∷ record {
      script = "eq=0,1\nvar=8,12\nequate=16\nequate=0\ndiffer=11\ncheck=1\n";
      answers = "term=12\nok=1\nok=1\nok=1\nok=1\nconflict=a11,a16,a0\n";
    }
    -- the same, joined in the other order
    ∷ record {
      script = "eq=0,1\nvar=8,12\nequate=0\nequate=16\ndiffer=11\ncheck=1\n";
      answers = "term=12\nok=1\nok=1\nok=1\nok=1\nconflict=a11,a0,a16\n";
    }
    -- where both sides have a way up to the common ancestor: the first side's, then the second's
    ∷ record {
      script = "eq=0,1\nvar=8,12\nequate=0\nequate=10\ndiffer=17\ncheck=1\n";
      answers = "term=12\nok=1\nok=1\nok=1\nok=1\nconflict=a17,a0,a10\n";
    }
    -- the sides are those of the equation as it was made, not by their numbers
    ∷ record {
      script = "eq=1,0\nvar=8,12\nequate=0\nequate=10\ndiffer=17\ncheck=1\n";
      answers = "term=12\nok=1\nok=1\nok=1\nok=1\nconflict=a17,a10,a0\n";
    }
    -- by `cong` through a third term
    ∷ record {
      script = "eq=3,4\nvar=8,12\neq=0,1\nvar=9,13\nequate=18\nequate=0\ncong=3,4\ndiffer=17\ncheck=1\n";
      answers = "term=12\nok=1\nterm=13\nok=1\nok=1\nok=1\nok=1\nok=1\nconflict=a17,a18,a0\n";
    }
    -- sides that are not equal are no conflict: the tester lemma answers
    ∷ record { script = "differ=11\nequate=0\ncheck=1\n"; answers = "ok=1\nok=1\nsplit=12;;\n" }
    -- not in a check that is not full
    ∷ record { script = "differ=1\nequate=0\ncheck=0\n"; answers = "ok=1\nok=1\nsat=1\n" }
    -- after constructor clash
    ∷ record { script = "differ=1\nequate=0\nequate=2\ncheck=1\n"; answers = "ok=1\nok=1\nok=1\nconflict=a0,a2\n" }
    -- after tester clash
    ∷ record { script = "differ=1\nassert=6\nequate=0\ncheck=1\n"; answers = "ok=1\nok=1\nok=1\nconflict=a6,a0\n" }
    -- after negative testers
    ∷ record { script = "differ=1\nassert=5\nequate=0\ncheck=1\n"; answers = "ok=1\nok=1\nok=1\nconflict=a5,a0\n" }
    -- before injectivity, which makes no selector then: term 12 is new
    ∷ record { script = "differ=3\nequate=2\nequate=14\ncheck=1\nterm=4,4\n"; answers = "ok=1\nok=1\nok=1\nconflict=a3,a2\nterm=12\n" }
    -- without it the selectors are made, and collapse answers
    ∷ record { script = "equate=2\nequate=14\ncheck=1\nterm=4,4\n"; answers = "ok=1\nok=1\nsplit=14;;\nterm=13\n" }
    -- before instantiation
    ∷ record {
      script = "eq=0,1\nvar=8,12\nassert=4\ndiffer=17\niface=0,1,1,1\ncheck=1\n";
      answers = "term=12\nok=1\nok=1\nok=1\nok=1\nconflict=a17,i1.1\n";
    }
    -- which answers without it
    ∷ record { script = "eq=0,1\nvar=8,12\nassert=4\niface=0,1,1,1\ncheck=1\n"; answers = "term=12\nok=1\nok=1\nok=1\nsplit=5;5;\n" }
    -- before exhaustiveness
    ∷ record {
      script = "eq=0,1\nvar=8,12\ndiffer=17\niface=0,1,1,1\ncheck=1\n";
      answers = "term=12\nok=1\nok=1\nok=1\nconflict=a17,i1.1\n";
    }
    -- which answers without it
    ∷ record { script = "eq=0,1\nvar=8,12\niface=0,1,1,1\ncheck=1\n"; answers = "term=12\nok=1\nok=1\nsplit=8,9;;1,-\n" }
    -- in order of the lines, not of the numbers
    ∷ record { script = "differ=11\ndiffer=1\nequate=0\nequate=10\ncheck=1\n"; answers = "ok=1\nok=1\nok=1\nok=1\nconflict=a11,a10\n" }
    -- the first entry whose sides are equal
    ∷ record { script = "differ=11\ndiffer=1\nequate=0\ncheck=1\n"; answers = "ok=1\nok=1\nok=1\nconflict=a1,a0\n" }
    -- taken back by `pop`: the tester lemma answers
    ∷ record { script = "push=1\ndiffer=1\npop=0\nequate=0\ncheck=1\n"; answers = "ok=1\nok=1\nok=1\nok=1\nsplit=12;;\n" }
    -- not taken back by a `pop` to its level
    ∷ record { script = "differ=1\npush=1\npop=0\nequate=0\ncheck=1\n"; answers = "ok=1\nok=1\nok=1\nok=1\nconflict=a1,a0\n" }
    -- the equality taken back
    ∷ record { script = "differ=1\npush=1\nequate=0\npop=0\ncheck=1\n"; answers = "ok=1\nok=1\nok=1\nok=1\nsplit=8,9;;1,-\n" }
    -- the same literal twice: not taken back with the second line
    ∷ record {
      script = "push=1\ndiffer=1\npush=1\ndiffer=1\npop=1\nequate=0\ncheck=1\n";
      answers = "ok=1\nok=1\nok=1\nok=1\nok=1\nok=1\nconflict=a1,a0\n";
    }
    -- the same literal twice: it stands where it first stood
    ∷ record {
      script = "differ=1\ndiffer=11\ndiffer=1\nequate=0\nequate=10\ncheck=1\n";
      answers = "ok=1\nok=1\nok=1\nok=1\nok=1\nconflict=a1,a0\n";
    }
    -- again after `pop`
    ∷ record { script = "push=1\ndiffer=1\npop=0\ndiffer=1\nequate=0\ncheck=1\n"; answers = "ok=1\nok=1\nok=1\nok=1\nok=1\nconflict=a1,a0\n" }
    -- again after `pop`: it stands at the end
    ∷ record {
      script = "push=1\ndiffer=1\npop=0\ndiffer=11\ndiffer=1\nequate=0\nequate=10\ncheck=1\n";
      answers = "ok=1\nok=1\nok=1\nok=1\nok=1\nok=1\nok=1\nconflict=a11,a10\n";
    }
    -- two variables of one atom: the literal of the first line is cited
    ∷ record { script = "var=8,5\ndiffer=17\ndiffer=1\nequate=0\ncheck=1\n"; answers = "ok=1\nok=1\nok=1\nok=1\nconflict=a17,a0\n" }
    -- the second of them after a `pop` of the first
    ∷ record {
      script = "var=8,5\npush=1\ndiffer=17\npop=0\ndiffer=1\nequate=0\ncheck=1\n";
      answers = "ok=1\nok=1\nok=1\nok=1\nok=1\nok=1\nconflict=a1,a0\n";
    }
    -- a negative literal of an equation by `assert` gives no entry, and does not keep `differ` from one
    ∷ record { script = "assert=1\nequate=0\ncheck=1\ndiffer=1\ncheck=1\n"; answers = "ok=1\nok=1\nsplit=12;;\nok=1\nconflict=a1,a0\n" }
    -- `equate` and `differ` of one atom
    ∷ record {
      script = "differ=1\nequate=1\nequate=0\ndiffer=0\ncheck=1\n";
      answers = "ok=1\nrefused=8\nok=1\nrefused=13\nconflict=a1,a0\n";
    }
    -- 13: a positive literal, a tester's; 5 before it: no such variable; 3 before both
    ∷ record {
      script = "differ=0\ndiffer=5\ndiffer=16\ndiffer=17\ndiffer=16,1\ndiffer=0,0\ndiffer=\ndiffer=01\n";
      answers = "refused=13\nrefused=13\nrefused=5\nrefused=5\nrefused=3\nrefused=3\nrefused=3\nrefused=3\n";
    }
    -- 8 is asked of `equate` alone
    ∷ record { script = "equate=1\nequate=5\ndiffer=4\n"; answers = "refused=8\nrefused=8\nrefused=13\n" }
    -- a refused line leaves no entry
    ∷ record { script = "differ=0\nequate=0\ncheck=1\n"; answers = "refused=13\nok=1\nsplit=12;;\n" }
    -- 11: where there is no room for a level there is for an entry; 13 refuses as elsewhere
    ∷ record {
      script = "push=1\npush=1\npush=1\npush=1\npush=1\npush=1\npush=1\npush=1\npush=1\npush=1\npush=1\npush=1\npush=1\npush=1\npush=1\npush=1\npush=1\npush=1\npush=1\npush=1\npush=1\npush=1\npush=1\npush=1\npush=1\npush=1\npush=1\npush=1\npush=1\npush=1\npush=1\npush=1\npush=1\npush=1\npush=1\npush=1\npush=1\npush=1\npush=1\npush=1\npush=1\npush=1\npush=1\npush=1\npush=1\npush=1\npush=1\npush=1\npush=1\npush=1\npush=1\npush=1\npush=1\npush=1\npush=1\npush=1\npush=1\npush=1\npush=1\npush=1\npush=1\npush=1\npush=1\npush=1\npush=1\ndiffer=0\ndiffer=1\nequate=0\ncheck=1\n";
      answers = "ok=1\nok=1\nok=1\nok=1\nok=1\nok=1\nok=1\nok=1\nok=1\nok=1\nok=1\nok=1\nok=1\nok=1\nok=1\nok=1\nok=1\nok=1\nok=1\nok=1\nok=1\nok=1\nok=1\nok=1\nok=1\nok=1\nok=1\nok=1\nok=1\nok=1\nok=1\nok=1\nok=1\nok=1\nok=1\nok=1\nok=1\nok=1\nok=1\nok=1\nok=1\nok=1\nok=1\nok=1\nok=1\nok=1\nok=1\nok=1\nok=1\nok=1\nok=1\nok=1\nok=1\nok=1\nok=1\nok=1\nok=1\nok=1\nok=1\nok=1\nok=1\nok=1\nok=1\nok=1\nrefused=11\nrefused=13\nok=1\nok=1\nconflict=a1,a0\n";
    }
    -- keys of later requests, and one that is no key
    ∷ record {
      script = "model=1\nshrink=1\ncount=1,1\nwhy=0,1\nwho=1\nsweep=1\nsplits=1\ndiffers=1\n";
      answers = "refused=3\nrefused=3\nrefused=3\nrefused=3\nrefused=3\nrefused=3\nrefused=3\nrefused=3\n";
    }
    ∷ []

pub unequals_shown : T (every row_holds unequals)
unfolding definitions setting setting_answers row_holds unequals
unequals_shown = tt

-- before `close` question 4 is asked first; terms of a sort that is no datatype are unequal too, where nothing is watched
pub unequal_constants : Example
unequal_constants = record {
  script = "sort=u\nfun=1\nfun=1\ndiffer=1\nclose=1\nterm=0\nterm=1\neq=0,1\nvar=0,2\ndiffer=1\ncheck=1\niface=0,1,0,0\ncheck=1\n";
  answers = "ok=1\nok=1\nok=1\nrefused=4\nok=1\nterm=0\nterm=1\nterm=2\nok=1\nok=1\nsat=1\nok=1\nconflict=a1,i0.0\n";
  result = 0;
  lines = 13;
  bytes_written = 89;
}

pub unequal_constants_shown : T (holds unequal_constants)
unfolding definitions gives holds unequal_constants
unequal_constants_shown = tt
