mod PathLaws
