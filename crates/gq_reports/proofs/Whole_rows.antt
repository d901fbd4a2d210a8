-- What is written in the full language, by computation.
use Rattle.std.proofs.Common.{◌++◌, ◌≡◌, ℕ, List, [], refl}
use Rattle.std.specs.Prelude.{codes, Ok, Err}
use Rattle.std.specs.Fmt.{digits}
use Rattle.std.specs.Str.{is_utf8, chars}
use Rattle.toml.proofs.OnLiterals.{toml_on_literals}
use Rattle.gq_reports.specs.Whole.{whole_of, run_written, check_written, asm_written}

-- ONE LEAF

abbrev pub hello_text : List ℕ
hello_text = codes "version = 1\nram = \"64K\"\n[[start]]\nname = \"hello\"\nquantum = \"4K\"\nprogram = '''\nmain\nsay \"hello\"\nend\n'''\n"

hello : run_written hello_text (codes "hello 2\n") ≡ Ok
    (codes "[init -> hello] hello\naccount init quota 65536\naccount init -> hello quota 0 used 0 steps 2/2 exited\n")
unfolding digits toml_on_literals is_utf8 chars whole_of
hello = refl

hello_checked : check_written hello_text ≡ Ok (codes "budget init -> hello own 0 steps 2\n")
unfolding digits toml_on_literals is_utf8 chars whole_of
hello_checked = refl

hello_asm : asm_written hello_text (codes "hello") ≡ Ok (codes "00010007000000010568656c6c6f\n")
unfolding digits toml_on_literals is_utf8 chars whole_of
hello_asm = refl

-- a program as code
hello_by_code : run_written (codes "version = 1\nram = \"64K\"\n[[start]]\nname = \"hello\"\nquantum = \"4K\"\ncode = \"00010007000000010568656c6c6f\"\n")
    (codes "hello 2") ≡ Ok (codes "[init -> hello] hello\naccount init quota 65536\naccount init -> hello quota 0 used 0 steps 2/2 exited\n")
unfolding digits toml_on_literals is_utf8 chars whole_of
hello_by_code = refl

-- an input is set and read
an_input : run_written
    (codes "version = 3\nram = 65536\ncaps = 2\n[[start]]\nname = \"a\"\nquantum = \"4K\"\ncaps = 0\ninputs = [9]\nprogram = '''\nmain\nin 0\nout\nend\n'''\n")
    (codes "a.0 = 7\na 3\na.0 = 8\n")
    ≡ Ok (codes "[init -> a] 7\naccount init quota 65536 caps 2\naccount init -> a quota 0 used 0 caps 0 taken 0 steps 3/3 exited\n")
unfolding digits toml_on_literals is_utf8 chars whole_of
an_input = refl

-- a loop runs
a_loop : run_written
    (codes "version = 1\nram = \"64K\"\n[[start]]\nname = \"hello\"\nquantum = \"4K\"\nprogram = '''\nmain\nloop 2\nsay \"x\"\nend\nend\n'''\n")
    (codes "hello 3")
    ≡ Ok (codes "[init -> hello] x\naccount init quota 61440\naccount init -> hello quota 4096 used 0 steps 3/6 running\n")
unfolding digits toml_on_literals is_utf8 chars whole_of
a_loop = refl

-- an init below the root
nested : run_written
    ((codes "version = 1\nram = \"64K\"\n[[start]]\nname = \"sub\"\nquantum = \"16K\"\n[[start.start]]\nname = \"hello\"\nquantum = \"4K\"\nprogram = '''\n"
    ++ codes "main\nsay \"hello\"\nend\n'''\n")) (codes "hello 1")
    ≡ Ok ((codes "[init -> sub -> hello] hello\naccount init quota 49152\naccount init -> sub quota 12288\n"
    ++ codes "account init -> sub -> hello quota 4096 used 0 steps 1/2 running\n"))
unfolding digits toml_on_literals is_utf8 chars whole_of
nested = refl

-- a leaf that starts after another
after_another : run_written
    ((codes "version = 1\nram = \"64K\"\n[[start]]\nname = \"a\"\nquantum = \"4K\"\nprogram = '''\nmain\nsay \"x\"\nend\n'''\n[[start]]\nname = \"b\"\n"
    ++ codes "quantum = \"4K\"\nafter = \"a\"\nprogram = '''\nmain\nsay \"y\"\nend\n'''\n")) (codes "b 1\na 2\n")
    ≡ Ok ((codes "[init -> a] x\naccount init quota 61440\naccount init -> a quota 0 used 0 steps 2/2 exited\n"
    ++ codes "account init -> b quota 4096 used 0 steps 0/2 running\n"))
unfolding digits toml_on_literals is_utf8 chars whole_of
after_another = refl

-- no interfaces, but their key
no_interfaces : run_written (codes "version = 1\nram = \"64K\"\nstart = []\ninterface = {}\n") [] ≡ Ok (codes "account init quota 65536\n")
unfolding digits toml_on_literals is_utf8 chars whole_of
no_interfaces = refl

-- REFUSED

no_toml : run_written (codes "version = \n") [] ≡ Err (codes "trade: S1 NotToml\n")
unfolding digits toml_on_literals is_utf8 chars whole_of
no_toml = refl

-- an unknown key comes before a missing one
unknown_key : run_written (codes "version = 1\ncolour = 1\n[[start]]\nname = \"hello\"\nquantum = \"4K\"\nprogram = '''\nmain\nsay \"hello\"\nend\n'''\n") []
    ≡ Err (codes "trade: S4 UnknownKey ?\n")
unfolding digits toml_on_literals is_utf8 chars whole_of
unknown_key = refl

missing_key : run_written (codes "version = 1\nstart = []\n") [] ≡ Err (codes "trade: S2 MissingKey ram\n")
unfolding digits toml_on_literals is_utf8 chars whole_of
missing_key = refl

bad_quantum : run_written (codes "version = 1\nram = \"64K\"\n[[start]]\nname = \"hello\"\nquantum = \"4k\"\nprogram = '''\nmain\nsay \"hello\"\nend\n'''\n") []
    ≡ Err (codes "trade: S3 BadValue quantum\n")
unfolding digits toml_on_literals is_utf8 chars whole_of
bad_quantum = refl

-- one or the other
program_and_code : run_written
    (codes "version = 1\nram = \"64K\"\n[[start]]\nname = \"hello\"\nquantum = \"4K\"\nprogram = '''\nmain\nsay \"hello\"\nend\n'''\ncode = \"\"\n") []
    ≡ Err (codes "trade: S3 BadValue code\n")
unfolding digits toml_on_literals is_utf8 chars whole_of
program_and_code = refl

-- four levels at most
too_deep : run_written
    ((codes "version = 1\nram = \"64K\"\n[[start]]\nname = \"a\"\nquantum = \"4K\"\n[[start.start]]\nname = \"b\"\nquantum = \"4K\"\n[[start.start.start]]\n"
    ++ codes "name = \"c\"\nquantum = \"4K\"\n[[start.start.start.start]]\nname = \"d\"\nquantum = \"4K\"\n[[start.start.start.start.start]]\nname = \"x\"\n"
    ++ codes "quantum = 0\nprogram = \"main\\nend\\n\"\n")) [] ≡ Err (codes "trade: S7 TooDeep x\n")
unfolding digits toml_on_literals is_utf8 chars whole_of
too_deep = refl

-- a program's text
bad_word : run_written (codes "version = 1\nram = \"64K\"\n[[start]]\nname = \"hello\"\nquantum = \"4K\"\nprogram = '''\nmain\nfoo\nend\n'''\n") []
    ≡ Err (codes "trade: hello: M1 UnknownWord line 2\n")
unfolding digits toml_on_literals is_utf8 chars whole_of
bad_word = refl

-- a program's code
no_code : run_written (codes "version = 1\nram = \"64K\"\n[[start]]\nname = \"hello\"\nquantum = \"4K\"\ncode = \"\"\n") []
    ≡ Err (codes "trade: hello: C1 Truncated\n")
unfolding digits toml_on_literals is_utf8 chars whole_of
no_code = refl

trailing_code : run_written (codes "version = 1\nram = \"64K\"\n[[start]]\nname = \"hello\"\nquantum = \"4K\"\ncode = \"00010007000000010568656c6c6f00\"\n") []
    ≡ Err (codes "trade: hello: C6 TrailingBytes\n")
unfolding digits toml_on_literals is_utf8 chars whole_of
trailing_code = refl

-- a program as the verifier says
too_few_operands : run_written (codes "version = 1\nram = \"64K\"\n[[start]]\nname = \"hello\"\nquantum = \"4K\"\nprogram = '''\nmain\nout\nend\n'''\n") []
    ≡ Err (codes "trade: hello: V1 MissingOperand in main at 1\n")
unfolding digits toml_on_literals is_utf8 chars whole_of
too_few_operands = refl

-- the quanta together
too_large_quanta : run_written (codes "version = 1\nram = 4096\n[[start]]\nname = \"hello\"\nquantum = \"8K\"\nprogram = '''\nmain\nsay \"hello\"\nend\n'''\n")
    [] ≡ Err (codes "trade: S11 QuantaExceed init\n")
unfolding digits toml_on_literals is_utf8 chars whole_of
too_large_quanta = refl

-- a budget above its quantum
over_quantum : run_written (codes "version = 1\nram = \"64K\"\n[[start]]\nname = \"hello\"\nquantum = \"4K\"\nprogram = '''\nmain\nspace o0 4097\nend\n'''\n")
    [] ≡ Err (codes "trade: hello: B1 OverQuantum own 8192 quantum 4096\n")
unfolding digits toml_on_literals is_utf8 chars whole_of
over_quantum = refl

-- the turns
no_such_leaf : run_written hello_text (codes "init 1\n") ≡ Err (codes "trade: U2 NoSuchComponent line 1\n")
unfolding digits toml_on_literals is_utf8 chars whole_of
no_such_leaf = refl

no_such_component : asm_written hello_text (codes "-x") ≡ Err (codes "trade: no component -x\n")
unfolding digits toml_on_literals is_utf8 chars whole_of
no_such_component = refl

-- SESSIONS

-- a server and its client
abbrev pub echo_text : List ℕ
echo_text =
    (codes "version = 1\nram = \"64K\"\n[[default-route]]\nany-service = true\nany-child = true\n[interface.echo]\narg = 1000\nreply = 2000\nobject = 100\n"
    ++ codes "need = \"8K\"\n[[start]]\nname = \"srv\"\nquantum = \"4K\"\nprovides = \"echo\"\nprogram = \"\"\"\nmain\nend\nopen\nend\ncall 0\npush 2\nmul\n"
    ++ codes "end\nclose 0\nend\n\"\"\"\n[[start]]\nname = \"cli\"\nquantum = \"16K\"\nprogram = \"\"\"\nmain\nopen o0 echo 8192\npush 21\ncall o0\nout\n"
    ++ codes "close o0\nend\n\"\"\"\n")

echo_written : run_written echo_text (codes "srv 1\ncli 1\nsrv 2\ncli 2\nsrv 4\ncli 2\nsrv 2\ncli 1\n")
    ≡ Ok
    (codes "[init -> cli] 42\naccount init quota 61440\n"
    ++ codes "account init -> srv quota 4096 used 0 steps 9/9 serving\naccount init -> cli quota 0 used 0 steps 6/6 exited\n")
unfolding digits toml_on_literals is_utf8 chars whole_of
echo_written = refl

echo_checked : check_written echo_text ≡ Ok (codes "budget init -> srv own 0 steps 9\nbudget init -> cli own 8192 steps 6\n")
unfolding digits toml_on_literals is_utf8 chars whole_of
echo_checked = refl

-- it gives less than the service needs
echo_short : run_written
    ((codes "version = 1\nram = \"64K\"\n[[default-route]]\nany-service = true\nany-child = true\n[interface.echo]\narg = 1000\nreply = 2000\nobject = 100\n"
    ++ codes "need = \"8K\"\n[[start]]\nname = \"srv\"\nquantum = \"4K\"\nprovides = \"echo\"\nprogram = \"\"\"\nmain\nend\nopen\nend\ncall 0\npush 2\nmul\n"
    ++ codes "end\nclose 0\nend\n\"\"\"\n[[start]]\nname = \"cli\"\nquantum = \"16K\"\nprogram = \"\"\"\nmain\nopen o0 echo 8191\npush 21\ncall o0\nout\n"
    ++ codes "close o0\nend\n\"\"\"\n")) [] ≡ Err (codes "trade: cli: V12 ShortDonation in main at 1\n")
unfolding digits toml_on_literals is_utf8 chars whole_of
echo_short = refl

-- CAPABILITIES

abbrev pub caps_text : List ℕ
caps_text =
    (codes "version = 2\ncaps = 10\nram = \"64K\"\n[[default-route]]\nany-service = true\nany-child = true\n[interface.echo]\narg = 1000\nreply = 2000\n"
    ++ codes "object = 100\nneed = \"8K\"\nneed-caps = 1\n[[start]]\nname = \"srv\"\nquantum = \"4K\"\ncaps = 0\nprovides = \"echo\"\nprogram = \"\"\"\nmain\n"
    ++ codes "end\nopen\nend\ncall 0\npush 2\nmul\nend\nclose 0\nend\n\"\"\"\n[[start]]\nname = \"cli\"\nquantum = \"16K\"\ncaps = 1\nprogram = \"\"\"\nmain\n"
    ++ codes "open o0 echo 8192\npush 21\ncall o0\nout\nclose o0\nend\n\"\"\"\n")

caps_written : run_written caps_text (codes "srv 1\ncli 1\nsrv 1\n")
    ≡ Ok ((codes "account init quota 45056 caps 9\naccount init -> srv quota 12288 used 4096 caps 1 taken 1 steps 2/9 handling\n"
    ++ codes "account init -> cli quota 8192 used 0 caps 0 taken 0 steps 1/6 blocked\n"))
unfolding digits toml_on_literals is_utf8 chars whole_of
caps_written = refl

caps_checked : check_written caps_text ≡ Ok (codes "budget init -> srv own 0 caps 0 steps 9\nbudget init -> cli own 8192 caps 1 steps 6\n")
unfolding digits toml_on_literals is_utf8 chars whole_of
caps_checked = refl
